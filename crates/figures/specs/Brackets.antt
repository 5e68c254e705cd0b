-- Brackets, filled brackets, and the list of all of them on a set.
use Rattle.std.specs.Prelude.{◌≡◌, ℕ, zero, suc, ◌+◌, ◌-◌, ◌^◌, cond, List, [], ◌∷◌, map, length, filter, ◌==◌, count_ones, nat_lt}
use Rattle.std.specs.List.{range_with_len}
use Rattle.figures.specs.Lists.{gather}
use Rattle.figures.specs.Fields.{Field}
use Rattle.figures.specs.Sets.{Member, Lowest, Apart, members, lowest, halves}

-- an entrant alone, or the brackets of two halves, whose champions meet
pub data Bracket : Type 0 where
  alone : ℕ → Bracket
  pair : Bracket → Bracket → Bracket

-- which of the two champions of a match wins it: that of the half written first, or of the half written second
pub data Side : Type 0 where
  first second : Side

-- a bracket with a winner for every match
pub data Filled : Type 0 where
  sole : ℕ → Filled
  match : Side → Filled → Filled → Filled

-- the bracket without its winners
unfoldable pub bracket : Filled → Bracket
bracket (sole e) = alone e
bracket (match side l r) = pair (bracket l) (bracket r)

-- the one of two that a side points to
unfoldable pub pick : {X : Type 0} → Side → X → X → X
pick first x y = x
pick second x y = y

-- who wins the last match
unfoldable pub champion : Filled → ℕ
champion (sole e) = e
champion (match side l r) = pick side (champion l) (champion r)

-- s is parted into two halves, and P holds of the one, Q of the other
pub record Halved (s : ℕ) (P Q : ℕ → Type 0) : Type 0 where
  -- the first half
  pub a : ℕ
  -- the second half
  pub b : ℕ
  -- the two make up s
  pub sum : a + b ≡ s
  -- they share nobody
  pub apart : Apart a b
  -- they are of equal size
  pub equal : count_ones a ≡ count_ones b
  -- what stands on each
  pub on_first : P a
  pub on_second : Q b

-- s is parted so, and the lowest member of s is in the first half
pub record Ordered (s : ℕ) (P Q : ℕ → Type 0) : Type 0 where
  pub halved : Halved s P Q
  pub lowest_first : (e : ℕ) → Lowest s e → Member halved.a e

-- The bracket is one on the set s: of a single entrant, or of two brackets on the halves of s. Of the two ways to write a
-- pair the one is taken that has the half with the lowest entrant first.
abbrev pub BracketOn : ℕ → Bracket → Type 0
BracketOn s (alone e) = s ≡ 2 ^ e
BracketOn s (pair l r) = Ordered s (λ a. BracketOn a l) (λ b. BracketOn b r)

-- The filled bracket is one on the set s: of a single entrant, or of two filled brackets on the halves of s. Of the two
-- ways to write a pair the one is taken that has the half with the lowest entrant first.
abbrev pub On : ℕ → Filled → Type 0
On s (sole e) = s ≡ 2 ^ e
On s (match side l r) = Ordered s (λ a. On a l) (λ b. On b r)

-- how many rounds m entrants play: how many k there are with 2 ^ k below m, so that 2 ^ k entrants play k rounds
unfoldable pub rounds : ℕ → ℕ
rounds m = length (filter (λ k. nat_lt (2 ^ k) m) (range_with_len 0 m))

-- every filled bracket of k rounds on s: at no rounds only a set of one has any
unfoldable pub listed_in : Field → ℕ → ℕ → List Filled
listed_in f zero s = cond (count_ones s == 1) (map sole (members f s)) []
listed_in f (suc k) s =
    gather (halves f s (lowest f s)) λ a.
    gather (listed_in f k a) λ l.
    gather (listed_in f k (s - a)) λ r.
    match first l r ∷ match second l r ∷ []

-- every filled bracket on s: none where the size of s is no power of two
unfoldable pub listed : Field → ℕ → List Filled
listed f s = listed_in f (rounds (count_ones s)) s
