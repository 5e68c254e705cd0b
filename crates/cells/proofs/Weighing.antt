-- Weights from a grid, and those of a field. Assumes nothing.
use Rattle.std.proofs.Common.{◌≡◌, ℕ, ◌<◌, List, map, sym, refl, ap, ◌∙◌, arith}
use Rattle.algebra.specs.Semirings.{Semiring}
use Rattle.figures.specs.Fields.{Field}
use Rattle.figures.specs.Sets.{members, halves}
use Rattle.figures.specs.Figures.{by_halves}
use Rattle.cells.specs.Renewal.{cell_of, weight_of, Weighed, Renewal, of_level, Refreshed}
use Rattle.cells.specs.Splits.{meeting, by_halves_with, sum_of}
use Rattle.cells.proofs.Renewing.{sums_alike, same_value}

-- the sum by the weights of a field
by_field : {M : Type 0} (A : Semiring M) (f : Field) (cells : ℕ → ℕ → M) (s w : ℕ)
    → by_halves_with A (λ x b. A.weight (f.beats x b)) f.size cells s w ≡ by_halves A f cells s w
unfolding by_halves_with meeting by_halves halves members
by_field A f cells s w = refl

by_grid : {M : Type 0} (A : Semiring M) (f : Field) (n : ℕ) (grid : List M) (cells : ℕ → ℕ → M) (s w : ℕ) → f.size ≡ n → Weighed A f grid → w < n
    → by_halves_with A (weight_of A grid) n cells s w ≡ by_halves A f cells s w
by_grid A f n grid cells s w sized g l =
    sums_alike A (weight_of A grid) (λ x b. A.weight (f.beats x b)) n s w cells cells l (λ b j. g w b (omega arith) (omega arith)) (λ a e u v j i. refl)
    ∙ ap (λ (x : ℕ). by_halves_with A (λ y b. A.weight (f.beats y b)) x cells s w) (sym sized)
    ∙ by_field A f cells s w

-- what was summed from the grid was summed by the weights of every field that the grid holds
pub refreshed : {V M : Type 0} (A : Semiring M) (means : V → M) (n size must : ℕ) (grid before after : List V) → 0 < n
    → Renewal A means n (of_level n size must) (sum_of A means n grid before) before after → Refreshed A means n size must grid before after
refreshed A means n size must grid before after some r f sized g =
    same_value A means n some (of_level n size must) (sum_of A means n grid before) (by_halves A f (cell_of A n (map means before))) before after r
    (λ x y l h. by_grid A f n (map means grid) (cell_of A n (map means before)) x y sized g l)
