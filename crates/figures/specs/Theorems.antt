-- What is proved of brackets and figures.
use Rattle.std.specs.Prelude.{◌≡◌, ℕ, suc, ◌^◌, ◌<◌, false, cond, ◌↔◌, List, ◌==◌, ◌≢◌, count_ones}
use Rattle.algebra.specs.Semirings.{Semiring, Keeps}
use Rattle.algebra.specs.Possibilities.{possibilities}
use Rattle.algebra.specs.Drawing.{drawing}
use Rattle.algebra.specs.Bribing.{bribing}
use Rattle.algebra.specs.Leading.{any_draw, unpaid}
use Rattle.figures.specs.Lists.{EachOnce}
use Rattle.figures.specs.Sums.{over}
use Rattle.figures.specs.Fields.{Field}
use Rattle.figures.specs.Sets.{Member, has}
use Rattle.figures.specs.Brackets.{Filled, bracket, champion, BracketOn, On, listed}
use Rattle.figures.specs.Figures.{worth, figure, by_halves}
use Rattle.figures.specs.Writings.{Same, Written}

-- ---- the list of the filled brackets

-- The list has every filled bracket on the set, only those, and each once, whatever the size of the set.
abbrev pub ListedEachOnce : Type 0
ListedEachOnce = (f : Field) (s : ℕ) → s < 2 ^ f.size → EachOnce (On s) (listed f s)

-- A filled bracket is one on a set exactly where the bracket without its winners is.
abbrev pub FilledBrackets : Type 0
FilledBrackets = (s : ℕ) (t : Filled) → On s t ↔ BracketOn s (bracket t)

-- Only a set whose size is a power of two has a filled bracket on it.
abbrev pub OnPowersOnly : Type 0
OnPowersOnly = (s : ℕ) (t : Filled) → On s t → (k : ℕ) × (count_ones s ≡ 2 ^ k)

-- A figure is the sum over any list that has each filled bracket on the set with that champion once.
abbrev pub SumOfAnyList : {M : Type 0} → Semiring M → Type 0
SumOfAnyList A =
    (f : Field) (s w : ℕ) → s < 2 ^ f.size
    → (ts : List Filled) → EachOnce (λ t. On s t × (champion t ≡ w)) ts
    → figure A f s w ≡ over A ts (worth A f)

-- Of the ways to write a filled bracket on a set, one and only one has the half with the lowest entrant first throughout;
-- and the champion is the same in all.
pub record LowestFirstOnce : Type 0 where
  pub some : (s : ℕ) (t : Filled) → Written s t → (u : Filled) × On s u × Same t u
  pub no_other : (s : ℕ) (t u v : Filled) → On s u → On s v → Same t u → Same t v → u ≡ v
  pub same_champion : (t u : Filled) → Same t u → champion t ≡ champion u

-- A filled bracket is worth the same however it is written.
abbrev pub SameWorth : {M : Type 0} → Semiring M → Type 0
SameWorth A = (f : Field) (t u : Filled) → Same t u → worth A f t ≡ worth A f u

-- ---- figures by halves

-- The figure of a set that is not a single entrant is the sum, over every half that holds the champion and every loser in
-- the rest, of the product of the figures of the two and of the weight of the champion over the loser.
abbrev pub ByHalves : {M : Type 0} → Semiring M → Type 0
ByHalves A =
    (f : Field) (s w : ℕ) → s < 2 ^ f.size → (count_ones s ≢ 1) → figure A f s w ≡ by_halves A f (figure A f) s w

-- The figure of a single entrant is one for himself, and nothing for anybody else.
abbrev pub OfOne : {M : Type 0} → Semiring M → Type 0
OfOne A = (f : Field) (e w : ℕ) → e < f.size → figure A f (2 ^ e) w ≡ cond (e == w) A.one A.nothing

-- The figure of an entrant who is not in the set is nothing.
abbrev pub NoneOutside : {M : Type 0} → Semiring M → Type 0
NoneOutside A = (f : Field) (s w : ℕ) → has s w ≡ false → figure A f s w ≡ A.nothing

-- The figure of a set whose size is no power of two is nothing.
abbrev pub NoneOffPowers : {M : Type 0} → Semiring M → Type 0
NoneOffPowers A = (f : Field) (s w : ℕ) → ((k : ℕ) → count_ones s ≢ 2 ^ k) → figure A f s w ≡ A.nothing

-- The cells are right for single entrants, and go by halves for larger sets.
pub record Table {M : Type 0} (A : Semiring M) (f : Field) (cells : ℕ → ℕ → M) : Type 0 where
  pub at_one : (e w : ℕ) → e < f.size → w < f.size → cells (2 ^ e) w ≡ cond (e == w) A.one A.nothing
  pub at_more : (k s w : ℕ) → s < 2 ^ f.size → count_ones s ≡ 2 ^ suc k → w < f.size → cells s w ≡ by_halves A f cells s w

-- Such cells are the figures of the sets whose size is a power of two.
abbrev pub TableHolds : {M : Type 0} → Semiring M → Type 0
TableHolds {M} A =
    (f : Field) (cells : ℕ → ℕ → M) → Table A f cells
    → (k s w : ℕ) → s < 2 ^ f.size → count_ones s ≡ 2 ^ k → w < f.size → cells s w ≡ figure A f s w

-- ---- locality

-- Two fields of one size that agree on every pairing of two members of a set give it the same figures.
abbrev pub PairingsWithin : {M : Type 0} → Semiring M → Type 0
PairingsWithin A =
    (f g : Field) (s : ℕ) → f.size ≡ g.size
    → ((x y : ℕ) → Member s x → Member s y → f.beats x y ≡ g.beats x y)
    → (w : ℕ) → figure A f s w ≡ figure A g s w

-- So a pairing of a and b counts only for the sets that hold both.
abbrev pub OnePairing : {M : Type 0} → Semiring M → Type 0
OnePairing A =
    (f g : Field) (a b : ℕ) → f.size ≡ g.size
    → ((x y : ℕ) → ((x ≡ a) × (y ≡ b) → ⊥) → ((x ≡ b) × (y ≡ a) → ⊥) → f.beats x y ≡ g.beats x y)
    → (s w : ℕ) → (Member s a × Member s b → ⊥) → figure A f s w ≡ figure A g s w

-- ---- passages

-- A map of meanings that keeps the operations leads each figure to the other algebra's.
abbrev pub LedToFigures : {M N : Type 0} → Semiring M → Semiring N → Type 0
LedToFigures {M} {N} A B = (h : M → N) → Keeps A B h → (f : Field) (s w : ℕ) → h (figure A f s w) ≡ figure B f s w

-- So whatever passes, along a passage, from a value that means a figure means the other algebra's figure.
abbrev pub FiguresPass : {V W M N : Type 0} → (V → M) → Semiring M → (W → N) → Semiring N → (V → W → Type 0) → Type 0
FiguresPass {V} {W} means A meant B passes =
    (f : Field) (s e : ℕ) (v : V) (w : W) → passes v w → means v ≡ figure A f s e → meant w ≡ figure B f s e

-- An entrant can win exactly when his draws exceed nought.
abbrev pub CanWinByDraws : Type 0
CanWinByDraws = (f : Field) (s w : ℕ) → figure possibilities f s w ≡ any_draw (figure drawing f s w)

-- An entrant can win exactly when his least bribe is nought.
abbrev pub CanWinUnpaid : Type 0
CanWinUnpaid = (f : Field) (s w : ℕ) → figure possibilities f s w ≡ unpaid (figure bribing f s w)

-- ---- choosing

-- Where every sum is one of its terms, a figure is something exactly where some filled bracket for that entrant is.
abbrev pub SomethingWhereABracketIs : {M : Type 0} → Semiring M → Type 0
SomethingWhereABracketIs A =
    (f : Field) (s w : ℕ) → s < 2 ^ f.size
    → (figure A f s w ≢ A.nothing) ↔ ((t : Filled) × On s t × (champion t ≡ w) × (worth A f t ≢ A.nothing))

-- And where it is something, some filled bracket for that entrant is worth it.
abbrev pub Attained : {M : Type 0} → Semiring M → Type 0
Attained A =
    (f : Field) (s w : ℕ) → s < 2 ^ f.size
    → (figure A f s w ≢ A.nothing) → (t : Filled) × On s t × (champion t ≡ w) × (worth A f t ≡ figure A f s w)
