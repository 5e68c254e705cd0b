-- The cells of the set of all, as one part of the memory. Assumes nothing.
use Rattle.std.proofs.Common.{◌≡◌, ℕ, suc, ◌+◌, ◌-◌, ◌*◌, ◌^◌, ◌<◌, ◌≤◌, List, [], ◌∷◌, ◌++◌, map, length, get_or, take, drop, sym, refl, ap, ◌∙◌, ap₂, suc-mul, arith, pow_pos}
use Rattle.std.specs.List.{range_with_len}
use Rattle.std.proofs.lemmas.List.{take-take, length-take, length-drop, get_or-take, get_or-drop, drop-map}
use Rattle.std.specs.List.{take-map}
use Rattle.algebra.specs.Semirings.{Semiring, LawfulSemiring}
use Rattle.figures.specs.Sums.{over}
use Rattle.cells.specs.Renewal.{cell_of}
use Rattle.cells.specs.Rooms.{needed}
use Rattle.table.specs.Questions.{OfAll, everybody, tally_of}
use Rattle.figures.proofs.Sums.{over_append, plus_nothing_r}

-- from the last row of so many on, there is one row left
pub last_row : (rows n : ℕ) → 0 < rows → (rows - 1) * n + n ≡ rows * n
last_row rows n some = sym (suc-mul (rows - 1) n) ∙ ap (λ (k : ℕ). k * n) (omega arith)

module _ {V M : Type 0} (A : Semiring M) (means : V → M) where
  -- what stands in a part of so many values, from an index on
  pub part_means : (n from : ℕ) (xs : List V) (w : ℕ) → w < n → from + n ≤ length xs
      → get_or (map means (take n (take (length xs - from) (drop from xs)))) w A.nothing ≡ get_or (map means xs) (from + w) A.nothing
  part_means n from xs w l fits =
      ap (λ zs. get_or (map means zs) w A.nothing) (take-take n (length xs - from) (drop from xs) (omega arith))
      ∙ ap (λ zs. get_or zs w A.nothing) (sym (take-map means n (drop from xs)))
      ∙ get_or-take n (map means (drop from xs)) w A.nothing l
      ∙ ap (λ zs. get_or zs w A.nothing) (sym (drop-map means from xs))
      ∙ get_or-drop from (map means xs) w A.nothing

  -- the sum of a part is that over the numbers of those who stand there
  pub part_sum : (xs : List V) (a : ℕ) (f : ℕ → M) → ((w : ℕ) → w < length xs → get_or (map means xs) w A.nothing ≡ f (a + w))
      → over A xs means ≡ over A (range_with_len a (length xs)) f
  unfolding over
  part_sum [] a f h = refl
  part_sum (x ∷ xs) a f h =
      ap₂ A.plus (h 0 (omega arith) ∙ ap f (omega arith)) (part_sum xs (a + 1) f (λ w l. h (suc w) (omega arith) ∙ ap f (omega arith)))

  -- one value more
  pub one_added : LawfulSemiring A → (a b x : V) (ys : List V) → means b ≡ A.plus (means a) (means x) → means a ≡ over A ys means → means b ≡ over A (ys ++ x ∷ []) means
  unfolding over
  one_added L a b x ys is so = is ∙ ap₂ A.plus so (sym (plus_nothing_r A L (means x))) ∙ sym (over_append A L ys (x ∷ []) means)

  -- the cells of the set of all are one part of the memory
  pub of_all : (n from : ℕ) (xs : List V) → from ≡ everybody n * n → needed n ≤ length xs → OfAll A means n xs (take n (take (length xs - from) (drop from xs)))
  unfolding cell_of
  of_all n from xs is room =
      let fits : from + n ≤ length xs = omega (arith, is, room, last_row (2 ^ n) n (pow_pos n)) in
      record {
        as_many = length-take n (take (length xs - from) (drop from xs)) ∙ omega (arith, length-take {A = V}, length-drop {A = V});
        each = λ w l. part_means n from xs w l fits ∙ ap (λ (i : ℕ). get_or (map means xs) (i + w) A.nothing) is;
      }

  -- their sum is the tally
  pub all_added : (n : ℕ) (xs row : List V) → OfAll A means n xs row → over A row means ≡ tally_of A n (cell_of A n (map means xs))
  all_added n xs row o =
      let cells = cell_of A n (map means xs) (everybody n) in
      part_sum row 0 cells (λ w l. o.each w (omega (arith, o.as_many)) ∙ ap cells (omega arith))
      ∙ ap (λ (k : ℕ). over A (range_with_len 0 k) cells) o.as_many
