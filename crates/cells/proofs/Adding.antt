-- Sums as the loops add them up. Assumes nothing.
use Rattle.std.proofs.Common.{◌≡◌, ℕ, zero, suc, ◌<◌, List, [], ◌∷◌, map, length, get_or, sym, ap, ◌∙◌, ap₂, arith}
use Rattle.algebra.specs.Semirings.{Semiring, LawfulSemiring}
use Rattle.figures.specs.Sums.{over}
use Rattle.figures.proofs.Sums.{plus_nothing_r}

-- what is read at an index means what stands there
pub get_or-means : {V M : Type 0} (f : V → M) (xs : List V) (i : ℕ) (d : M) (x : V) → i < length xs → x ≡ get_or xs i x → f x ≡ get_or (map f xs) i d
get_or-means f [] i d x h e = absurd (omega (arith, h))
get_or-means f (y ∷ ys) zero d x h e = ap f e
get_or-means f (y ∷ ys) (suc i) d x h e = get_or-means f ys i d x (omega (arith, h)) e

module _ {M : Type 0} (A : Semiring M) (L : LawfulSemiring A) where
  -- one more of a list that is worked off
  pub one_off : (x y : M) (a : ℕ) (xs ys : List ℕ) (f : ℕ → M) → xs ≡ a ∷ ys → y ≡ A.plus x (f a) → A.plus y (over A ys f) ≡ A.plus x (over A xs f)
  unfolding over
  one_off x y a xs ys f e q =
      ap (λ z. A.plus z (over A ys f)) q ∙ L.plus_assoc x (f a) (over A ys f) ∙ sym (ap (λ zs. A.plus x (over A zs f)) e)

  pub all_off : (x : M) (xs : List ℕ) (f : ℕ → M) → xs ≡ [] → A.plus x (over A xs f) ≡ x
  unfolding over
  all_off x xs f e = ap (λ zs. A.plus x (over A zs f)) e ∙ plus_nothing_r A L x

  pub none_off : (x : M) (xs ys : List ℕ) (f : ℕ → M) → x ≡ A.nothing → xs ≡ ys → A.plus x (over A xs f) ≡ over A ys f
  none_off x xs ys f z e = ap₂ (λ y zs. A.plus y (over A zs f)) z e ∙ L.plus_nothing (over A ys f)
