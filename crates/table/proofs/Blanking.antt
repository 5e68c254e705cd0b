-- Values that are set to nothing. Assumes nothing.
use Rattle.std.proofs.Common.{◌≡◌, ℕ, zero, suc, ◌-◌, ◌≤◌, List, [], ◌∷◌, ◌++◌, map, length, get_or, drop, refl, ap, ◌∙◌, arith}
use Rattle.std.specs.List.{FoldsTo}
use Rattle.std.proofs.lemmas.List.{length-append, length-drop, map-append, get_or_append_left, get_or-append_right, get_or-drop, length-map}
use Rattle.algebra.specs.Semirings.{Semiring}
use Rattle.table.specs.Fillings.{Cleared}

module _ {V M : Type 0} (A : Semiring M) (means : V → M) where
  -- values that calls gave, each of which gives nothing
  pub given_nothing : {F : Type 0} (R : F → V → F → Type 0) → ((f : F) (v : V) (f' : F) → R f v f' → means v ≡ A.nothing)
      → (f : F) (ys : List V) (f' : F) → FoldsTo R f ys f' → (i : ℕ) → get_or (map means ys) i A.nothing ≡ A.nothing
  given_nothing R gives f [] f' h i = refl
  given_nothing R gives f (y ∷ ys) f' h zero = gives f y h.0 h.1
  given_nothing R gives f (y ∷ ys) f' h (suc i) = given_nothing R gives h.0 ys f' h.2 i

  -- so many values that mean nothing, before what stood behind as many
  pub cleared_front : (count : ℕ) (xs ys : List V) → count ≤ length xs → length ys ≡ count → ((i : ℕ) → get_or (map means ys) i A.nothing ≡ A.nothing)
      → Cleared A means count xs (ys ++ drop count xs)
  cleared_front count xs ys fits is blank =
      record {
        same_length = length-append ys (drop count xs) ∙ omega (arith, length-drop count xs);
        cleared = λ i h.
            ap (λ zs. get_or zs i A.nothing) (map-append means ys (drop count xs))
            ∙ get_or_append_left (map means ys) (map means (drop count xs)) A.nothing i (omega (arith, length-map ys means))
            ∙ blank i;
        held = λ i d h.
            get_or-append_right ys (drop count xs) count i d is h
            ∙ get_or-drop count xs (i - count) d
            ∙ ap (λ (j : ℕ). get_or xs j d) (omega arith);
      }
