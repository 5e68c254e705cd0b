-- What a filled bracket is worth, and what a figure is.
use Rattle.std.specs.Prelude.{ℕ, ◌-◌, filter, nat_eq}
use Rattle.algebra.specs.Semirings.{Semiring}
use Rattle.figures.specs.Sums.{over}
use Rattle.figures.specs.Fields.{Field}
use Rattle.figures.specs.Sets.{members, halves}
use Rattle.figures.specs.Brackets.{Filled, sole, match, pick, champion, listed}

-- the product, over the matches, of the weight of the winner beating the loser; one where there is no match
unfoldable pub worth : {M : Type 0} → Semiring M → Field → Filled → M
worth A f (sole e) = A.one
worth A f (match side l r) =
    let x = champion l in
    let y = champion r in
    A.times (A.times (worth A f l) (worth A f r)) (A.weight (f.beats (pick side x y) (pick side y x)))

-- the figure of the set s and the entrant w: the sum of the worths of the filled brackets on s with champion w
unfoldable pub figure : {M : Type 0} → Semiring M → Field → ℕ → ℕ → M
figure A f s w = over A (filter (λ t. nat_eq (champion t) w) (listed f s)) (worth A f)

-- By halves, where cells has a value for each set and entrant: w comes out of a half a that holds him, and beats some b
-- who comes out of the rest.
unfoldable pub by_halves : {M : Type 0} → Semiring M → Field → (ℕ → ℕ → M) → ℕ → ℕ → M
by_halves A f cells s w =
    over A (halves f s w) λ a.
    over A (members f (s - a)) λ b.
    A.times (A.times (cells a w) (cells (s - a) b)) (A.weight (f.beats w b))
