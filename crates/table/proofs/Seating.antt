-- The single entrants, one by one. Assumes nothing.
use Rattle.std.proofs.Common.{◌≡◌, ℕ, ◌+◌, ◌*◌, ◌^◌, ◌<◌, Bool, true, false, ◌&&◌, ◌||◌, eqb, ltb, ◌⊎◌, List, length, set, sym, refl, ap, ◌∙◌, subst, inl, inr, arith}
use Rattle.std.proofs.lemmas.Bool.{eq-eqb, ne_eqb, cases_eq, lt-ltb, le-ltb}
use Rattle.algebra.specs.Semirings.{Semiring}
use Rattle.cells.specs.Renewal.{Renewal}
use Rattle.table.specs.Singles.{of_singles}
use Rattle.cells.proofs.Renewing.{after, wrote, ltb_more}

-- one entrant more
singles_more : (e x y : ℕ) → of_singles (e + 1) x y ≡ (of_singles e x y || (eqb x (2 ^ e) && eqb y e))
singles_more e x y = go (cases_eq y e)
  where
    both : (p : Bool) → (p && true) ≡ ((p && false) || (p && true))
    both true = refl
    both false = refl

    left : (p q r : Bool) → (p && q) ≡ ((p && q) || (r && false))
    left true true r = refl
    left true false true = refl
    left true false false = refl
    left false q true = refl
    left false q false = refl

    go : (y ≡ e) ⊎ (y ≡ e → ⊥) → of_singles (e + 1) x y ≡ (of_singles e x y || (eqb x (2 ^ e) && eqb y e))
    go (inl q) =
        let a : eqb x (2 ^ y) ≡ eqb x (2 ^ e) = ap (λ (z : ℕ). eqb x (2 ^ z)) q in
        let b : ltb y (e + 1) ≡ true = lt-ltb y (e + 1) (omega arith) in
        let c : ltb y e ≡ false = le-ltb y e (omega arith) in
        let d : eqb y e ≡ true = eq-eqb y e q in
        rw (a, b, c, d) (both (eqb x (2 ^ e)))
    go (inr q) =
        let b : ltb y (e + 1) ≡ ltb y e = ltb_more y e q in
        let d : eqb y e ≡ false = ne_eqb y e q in
        rw (b, d) (left (eqb x (2 ^ y)) (ltb y e) (eqb x (2 ^ e)))

module _ {V M : Type 0} (A : Semiring M) (means : V → M) (n : ℕ) (some : 0 < n) where
  pub one_seated : (e i : ℕ) (v : V) (xs ys zs : List V) → e < n → i < length ys → i ≡ 2 ^ e * n + e → means v ≡ A.one → zs ≡ set ys i v
      → Renewal A means n (of_singles e) (λ _ _. A.one) xs ys → Renewal A means n (of_singles (e + 1)) (λ _ _. A.one) xs zs
  one_seated e i v xs ys zs l u q o z r =
      let P : List V → Type 0 = λ ts. Renewal A means n (of_singles (e + 1)) (λ _ _. A.one) xs ts in
      let full : zs ≡ set ys (2 ^ e * n + e) v = z ∙ ap (λ (j : ℕ). set ys j v) q in
      subst P (sym full)
      (after A means n some (of_singles e) (λ x y. eqb x (2 ^ e) && eqb y e) (of_singles (e + 1)) (λ _ _. A.one) (λ _ _. A.one) xs ys (set ys (2 ^ e * n + e) v) r
      (wrote A means n some (2 ^ e) e v (λ _ _. A.one) ys l (omega arith) o) (λ x y k h. refl) (λ x y k. singles_more e x y))
