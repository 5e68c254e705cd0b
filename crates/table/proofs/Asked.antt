-- Cells in order answer by figures. Assumes nothing.
use Rattle.std.proofs.Common.{◌≡◌, ℕ, zero, suc, ◌+◌, ◌^◌, ◌<◌, Bool, true, false, cond, List, sym, ap, ◌∙◌, subst, arith, pow_pos}
use Rattle.std.specs.List.{range_with_len}
use Rattle.algebra.specs.Semirings.{Semiring}
use Rattle.figures.specs.Fields.{Field}
use Rattle.figures.specs.Figures.{figure}
use Rattle.figures.specs.Sums.{over}
use Rattle.figures.proofs.Lists.{counting_in}
use Rattle.figures.proofs.Sums.{over_same_in}
use Rattle.cells.specs.Renewal.{cell_of}
use Rattle.table.specs.Fillings.{InOrder}
use Rattle.table.specs.Questions.{everybody, tally_of, set_of}

-- the cell of an entrant in the set of all
pub final_figure : {M : Type 0} (A : Semiring M) (f : Field) (n : ℕ) (cells : List M) → f.size ≡ n → InOrder A f cells
    → (w : ℕ) → w < n → cell_of A n cells (everybody n) w ≡ figure A f (everybody f.size) w
final_figure A f n cells e p =
    let P : ℕ → Type 0 = λ k. (w : ℕ) → w < k → cell_of A k cells (everybody k) w ≡ figure A f (everybody f.size) w in
    subst P e (λ w l. p (everybody f.size) w (omega (arith, pow_pos f.size)) l)

-- the sum of all
pub final_tally : {M : Type 0} (A : Semiring M) (f : Field) (n : ℕ) (cells : List M) → f.size ≡ n → InOrder A f cells
    → tally_of A n (cell_of A n cells) ≡ tally_of A f.size (figure A f)
final_tally A f n cells e p =
    over_same_in A (range_with_len 0 n) (cell_of A n cells (everybody n)) (figure A f (everybody f.size)) (λ w i. final_figure A f n cells e p w (omega (arith, (counting_in w 0 n i).1)))
    ∙ ap (λ (k : ℕ). over A (range_with_len 0 k) (figure A f (everybody f.size))) (sym e)

-- a set of entrants below n is a number below 2 ^ n
pub set_below : (n : ℕ) (test : ℕ → Bool) → set_of n test < 2 ^ n
set_below zero test = omega arith
set_below (suc n) test = go (test n) (set_below n test)
  where
    go : (b : Bool) → set_of n test < 2 ^ n → set_of n test + cond b (2 ^ n) 0 < 2 ^ suc n
    go true h = omega arith
    go false h = omega arith
