-- A refreshed level holds the figures. Assumes nothing.
use Rattle.std.proofs.Common.{◌≡◌, ℕ, suc, ◌+◌, ◌*◌, ◌^◌, ◌<◌, ◌≤◌, Bool, true, false, ltb, ◌⊎◌, List, map, length, sym, refl, ap, ◌∙◌, ap₂, inl, inr, arith, pow_pos}
use lib.Bits.{bit_and, and_comm}
use lib.Count.{ones}
use Rattle.std.proofs.lemmas.Nat.{div-mul-add, mod-mul-add, mul-add-lt}
use Rattle.std.proofs.lemmas.Bool.{eqb-true, eq-eqb, and_parts, and_from, and_left, and_right, cases_eq, lt-ltb}
use Rattle.algebra.specs.Semirings.{Semiring, LawfulSemiring}
use Rattle.figures.specs.Fields.{Field}
use Rattle.figures.specs.Sets.{has, Member}
use Rattle.figures.specs.Figures.{figure, by_halves}
use Rattle.figures.proofs.Bits.{bit_true, member_lt}
use Rattle.figures.proofs.Halves.{by_halves_same, by_halves_lem}
use Rattle.cells.specs.Renewal.{cell_of, Renewal, wanted, of_level}
use Rattle.cells.proofs.Renewing.{cell_held}

module _ {M : Type 0} (A : Semiring M) (f : Field) (n : ℕ) where
  -- the cells of every set of 2 ^ k members hold the figures, at the members
  abbrev pub Right : ℕ → List M → Type 0
  Right k cells = (s w : ℕ) → s < 2 ^ n → ones s ≡ 2 ^ k → Member s w → cell_of A n cells s w ≡ figure A f s w

  -- so do those of the sets of 2 ^ k members that lack some of must
  abbrev pub RightBut : ℕ → ℕ → List M → Type 0
  RightBut must k cells =
      (s w : ℕ) → s < 2 ^ n → ones s ≡ 2 ^ k → (bit_and s must ≡ must → ⊥) → Member s w → cell_of A n cells s w ≡ figure A f s w

  -- nobody is lacked where nobody must be there
  pub but_none : (k : ℕ) (cells : List M) → RightBut 0 k cells
  but_none k cells s w h o m t = absurd (m (and_comm s 0))

module _ {V M : Type 0} (A : Semiring M) (L : LawfulSemiring A) (means : V → M) (f : Field) (n size must : ℕ) (before after : List V)
    (sized : f.size ≡ n) (some : 0 < n) (fits : 2 ^ n * n ≤ length before)
    (r : Renewal A means n (of_level n size must) (by_halves A f (cell_of A n (map means before))) before after) where
  -- a cell that is due
  pub cell_fresh : (s w : ℕ) → s < 2 ^ n → w < n → of_level n size must s w ≡ true
      → cell_of A n (map means after) s w ≡ by_halves A f (cell_of A n (map means before)) s w
  unfolding cell_of
  cell_fresh s w h l t =
      let a = div-mul-add s n w l in
      let b = mod-mul-add s n w l in
      let u : s * n + w < length before = omega (arith, mul-add-lt s n w (2 ^ n) h l, fits) in
      r.fresh (s * n + w) u (ap₂ (of_level n size must) a b ∙ t) ∙ ap₂ (by_halves A f (cell_of A n (map means before))) a b

  pub due : (s w : ℕ) → s < 2 ^ n → ones s ≡ size → bit_and s must ≡ must → has s w ≡ true → of_level n size must s w ≡ true
  unfolding wanted
  due s w h o m t = and_from _ _ (lt-ltb s (2 ^ n) h) (and_from _ _ (and_from _ _ (eq-eqb (ones s) size o) (eq-eqb (bit_and s must) must m)) t)

  unwanted : (s : ℕ) → (ones s ≡ size → bit_and s must ≡ must → ⊥) → (b : Bool) → wanted size must s ≡ b → b ≡ false
  unfolding wanted
  unwanted s k true e = let p = and_parts _ _ e in absurd (k (eqb-true (ones s) size p.0) (eqb-true (bit_and s must) must p.1))
  unwanted s k false e = refl

  pub not_due : (s w : ℕ) → (ones s ≡ size → bit_and s must ≡ must → ⊥) → of_level n size must s w ≡ false
  not_due s w k = and_right (ltb s (2 ^ n)) _ (and_left (wanted size must s) (has s w) (unwanted s k (wanted size must s) refl))

  -- a cell of a set that is not refreshed
  pub kept_cell : (s w : ℕ) → s < 2 ^ n → Member s w → (ones s ≡ size → bit_and s must ≡ must → ⊥)
      → cell_of A n (map means after) s w ≡ cell_of A n (map means before) s w
  kept_cell s w h t k =
      cell_held A means n some (of_level n size must) (by_halves A f (cell_of A n (map means before))) before after r s w
      (member_lt n s w h (bit_true s w t)) (not_due s w k)

  -- Where the cells of 2 ^ k members are right, and those of twice as many that are not refreshed, all of twice as many
  -- become right.
  pub lifts : (k : ℕ) → size ≡ 2 ^ suc k → Right A f n k (map means before) → RightBut A f n must (suc k) (map means before)
      → Right A f n (suc k) (map means after)
  lifts k z p q s w h o t = go (cases_eq (bit_and s must) must)
    where
      go : (bit_and s must ≡ must) ⊎ (bit_and s must ≡ must → ⊥) → cell_of A n (map means after) s w ≡ figure A f s w
      go (inl m) =
          let whole : 2 ^ f.size ≡ 2 ^ n = ap (λ (x : ℕ). 2 ^ x) sized in
          cell_fresh s w h (member_lt n s w h (bit_true s w t)) (due s w h (o ∙ sym z) m t)
          ∙ by_halves_same A f s w (cell_of A n (map means before)) (figure A f) (λ a e u v i. p a e (omega arith) (omega arith) i)
          ∙ sym (by_halves_lem A L f s w (omega arith) (λ one. omega (arith, pow_pos k)))
      go (inr m) = kept_cell s w h t (λ _ e. m e) ∙ q s w h o m t

  -- of every other size, the cells that are right stay so
  pub stays : (k : ℕ) → (size ≡ 2 ^ k → ⊥) → Right A f n k (map means before) → Right A f n k (map means after)
  stays k z p s w h o t = kept_cell s w h t (λ e _. z (sym e ∙ o)) ∙ p s w h o t
