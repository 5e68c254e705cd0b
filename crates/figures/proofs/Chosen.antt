-- Where a sum is one of its terms, a figure is something exactly where some filled bracket is. Assumes nothing.
use Rattle.std.proofs.Common.{◌≡◌, eqb, List, [], ◌∷◌, filter, sym, refl, ap, ◌∙◌, inl, inr}
use Rattle.figures.specs.Lists.{In}
use Rattle.algebra.specs.Semirings.{Semiring, LawfulSemiring, Chooses}
use Rattle.figures.specs.Sums.{over}
use Rattle.figures.specs.Brackets.{Filled, champion, listed}
use Rattle.figures.specs.Figures.{worth, figure}
use Rattle.figures.specs.Theorems.{SomethingWhereABracketIs, Attained}
use Rattle.figures.proofs.Listed.{won_listed}

module _ {M : Type 0} (A : Semiring M) (choosing : Chooses A) where
  abbrev Something : M → Type 0
  Something x = x ≡ A.nothing → ⊥

  -- a sum that is something is one of its terms
  pub some_term : {X : Type 0} (xs : List X) (g : X → M) → Something (over A xs g) → (x : X) × In x xs × (g x ≡ over A xs g)
  unfolding over
  some_term [] g h = absurd (h refl)
  some_term (x ∷ xs) g h = elim (choosing (g x) (over A xs g)) [
    | inl e ↦ (x, inl refl, sym e)
    | inr e ↦ (let r = some_term xs g (λ z. h (e ∙ z)) in (r.0, inr r.1, r.2 ∙ sym e))
  ]

  module _ (L : LawfulSemiring A) where
    -- a sum that is nothing has no term that is something
    none_left : (x y : M) → A.plus x y ≡ A.nothing → x ≡ A.nothing
    none_left x y e = elim (choosing x y) [
      | inl p ↦ sym p ∙ e
      | inr p ↦ cc (L.plus_nothing x, L.plus_comm A.nothing x, p, e)
    ]

    none_right : (x y : M) → A.plus x y ≡ A.nothing → y ≡ A.nothing
    none_right x y e = none_left y x (L.plus_comm y x ∙ e)

    pub none_term : {X : Type 0} (xs : List X) (g : X → M) → over A xs g ≡ A.nothing → (x : X) → In x xs → g x ≡ A.nothing
    unfolding over
    none_term [] g h x i = absurd i
    none_term (y ∷ xs) g h x (inl e) = ap g e ∙ none_left (g y) (over A xs g) h
    none_term (y ∷ xs) g h x (inr i) = none_term xs g (none_right (g y) (over A xs g) h) x i

module _ {M : Type 0} (A : Semiring M) (L : LawfulSemiring A) where
  pub something_where_a_bracket_is : Chooses A → SomethingWhereABracketIs A
  unfolding figure
  something_where_a_bracket_is choosing f s w b =
      let ts : List Filled = filter (λ t. eqb (champion t) w) (listed f s) in
      let won = won_listed f s w b in (
        λ h.
            let r = some_term A choosing ts (worth A f) h in
            let q = won.only r.0 r.1 in
            (r.0, q.0, q.1, λ z. h (sym r.2 ∙ z)),
        λ r e. r.3 (none_term A choosing L ts (worth A f) e r.0 (won.every r.0 (r.1, r.2))),
      )

pub attained : {M : Type 0} (A : Semiring M) → Chooses A → Attained A
unfolding figure
attained A choosing f s w b h =
    let r = some_term A choosing (filter (λ t. eqb (champion t) w) (listed f s)) (worth A f) h in
    let q = (won_listed f s w b).only r.0 r.1 in
    (r.0, q.0, q.1, r.2)
