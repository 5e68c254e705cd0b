-- A sum does not hang on the order, so a figure is the sum over its filled brackets however they are listed. Assumes nothing.
use Rattle.std.proofs.Common.{◌≡◌, ◌++◌, length, length-append, arith, eqb, List, [], ◌∷◌, filter, sym, refl, ap, ◌∙◌, inl}
use Rattle.figures.specs.Lists.{In, Distinct}
use Rattle.algebra.specs.Semirings.{Semiring, LawfulSemiring}
use Rattle.figures.specs.Sums.{over}
use Rattle.figures.specs.Brackets.{champion, listed}
use Rattle.figures.specs.Figures.{worth, figure}
use Rattle.figures.specs.Theorems.{SumOfAnyList}
use Rattle.figures.proofs.Lists.{found, elsewhere, same_length}
use Rattle.figures.proofs.Sums.{over_append}
use Rattle.figures.proofs.Listed.{won_listed}

module _ {M : Type 0} (A : Semiring M) (L : LawfulSemiring A) {X : Type 0} where
  -- x may come first
  over_found : (before after : List X) (x : X) (f : X → M) → over A (before ++ x ∷ after) f ≡ A.plus (f x) (over A (before ++ after) f)
  unfolding over
  over_found before after x f =
      let ahead = L.plus_assoc (over A before f) (f x) (over A after f) in
      let first = L.plus_assoc (f x) (over A before f) (over A after f) in
      cc (over_append A L before (x ∷ after) f, over_append A L before after f, L.plus_comm (over A before f) (f x))

  over_all : (xs ys : List X) (f : X → M) → Distinct xs → length xs ≡ length ys → ((x : X) → In x xs → In x ys) → over A xs f ≡ over A ys f
  unfolding over
  over_all [] [] f d e to = refl
  over_all [] (y ∷ ys) f d e to = absurd (omega arith)
  over_all (x ∷ xs) ys f d e to =
      let r = found x ys (to x (inl refl)) in
      let l : length xs ≡ length (r.before ++ r.after) = omega (arith, ap length r.is, length-append r.before (x ∷ r.after), length-append r.before r.after) in
      ap (A.plus (f x)) (over_all xs (r.before ++ r.after) f d.1 l (elsewhere x xs ys d to r))
      ∙ sym (over_found r.before r.after x f) ∙ ap (λ zs. over A zs f) (sym r.is)

  pub over_order : (xs ys : List X) (f : X → M) → Distinct xs → Distinct ys → ((x : X) → In x xs → In x ys) → ((x : X) → In x ys → In x xs)
      → over A xs f ≡ over A ys f
  over_order xs ys f d e to back = over_all xs ys f d (same_length xs ys d e to back) to

pub sum_of_any_list : {M : Type 0} (A : Semiring M) → LawfulSemiring A → SumOfAnyList A
unfolding figure
sum_of_any_list A L f s w h ts is =
    let won = won_listed f s w h in
    over_order A L (filter (λ t. eqb (champion t) w) (listed f s)) ts (worth A f) won.once is.once
    (λ t i. is.every t (won.only t i)) (λ t i. won.every t (is.only t i))
