-- A table that is filled level by level. Assumes nothing.
use Rattle.std.proofs.Common.{◌≡◌, ℕ, ◌+◌, ◌*◌, ◌/◌, ◌%◌, ◌^◌, ◌<◌, ◌≤◌, Bool, true, false, cond, ◌⊎◌, List, map, length, sym, refl, ap, ◌∙◌, subst, ap₂, inl, inr, arith, pow_pos, pow_mono}
use lib.Bits.{and_comm}
use lib.Count.{ones, ones-le}
use lib.Pow.{pow-lt}
use Rattle.std.proofs.lemmas.Nat.{le-div, mod_below, div-mul-add, mod-mul-add, mul-add-lt}
use Rattle.std.proofs.lemmas.Bool.{eq-eqb, ne_eqb, and_right, and_from, and_left, cases_eq, cases_lt, lt-ltb, le-ltb}
use Rattle.algebra.specs.Semirings.{Semiring, LawfulSemiring}
use Rattle.figures.specs.Fields.{Field}
use Rattle.figures.specs.Sets.{has}
use Rattle.figures.specs.Figures.{figure, by_halves}
use Rattle.figures.proofs.Bits.{bit_true, member_lt, ones_one, ones_pow}
use Rattle.figures.proofs.Alone.{of_one}
use Rattle.figures.proofs.Halves.{by_halves_same, by_halves_lem, none_outside, none_off_powers}
use Rattle.cells.specs.Renewal.{cell_of, Renewal, of_level, wanted}
use Rattle.table.specs.Singles.{of_singles}
use Rattle.table.specs.Fillings.{Blank, FilledTo, InOrder}
use Rattle.cells.specs.Rooms.{needed}
use Rattle.cells.proofs.Renewing.{cell_held}
use Rattle.cells.proofs.Lifting.{cell_fresh, due, not_due}
use Rattle.cells.proofs.Doubling.{twice}

-- a number strictly between two powers of two that follow one another is none
no_power : (k j x : ℕ) → 2 ^ k < x → x < 2 ^ (k + 1) → x ≡ 2 ^ j → ⊥
no_power k j x a b e = go (cases_lt k j)
  where
    go : (k < j) ⊎ (j ≤ k) → ⊥
    go (inl h) = let p : 2 ^ (k + 1) ≤ 2 ^ j = pow_mono (omega arith) in omega arith
    go (inr h) = let p : 2 ^ j ≤ 2 ^ k = pow_mono h in omega arith

bool_ways : (b : Bool) → (b ≡ true) ⊎ (b ≡ false)
bool_ways true = inl refl
bool_ways false = inr refl

-- no cell behind the needed ones is due, neither of a level nor of the single entrants
pub level_within : (n size i : ℕ) → 0 < n → 2 ^ n * n ≤ i → of_level n size 0 (i / n) (i % n) ≡ false
level_within n size i some h = and_left _ _ (le-ltb (i / n) (2 ^ n) (le-div (2 ^ n) i n some h))

pub singles_within : (n i : ℕ) → 0 < n → 2 ^ n * n ≤ i → of_singles n (i / n) (i % n) ≡ false
singles_within n i some h =
    let p : 2 ^ (i % n) < 2 ^ n = pow-lt (mod_below i n some) in
    let q = le-div (2 ^ n) i n some h in
    and_left _ _ (ne_eqb (i / n) (2 ^ (i % n)) (λ e. omega (arith, p, q, e)))

module _ {V M : Type 0} (A : Semiring M) (L : LawfulSemiring A) (means : V → M) (f : Field) (some : 0 < f.size) where
  module _ (k : ℕ) (before after : List V) (fits : 2 ^ f.size * f.size ≤ length before)
      (r : Renewal A means f.size (of_level f.size (2 ^ (k + 1)) 0) (by_halves A f (cell_of A f.size (map means before))) before after)
      (p : FilledTo A f k (map means before)) where
    held_cell : (s w : ℕ) → w < f.size → of_level f.size (2 ^ (k + 1)) 0 s w ≡ false → cell_of A f.size (map means after) s w ≡ cell_of A f.size (map means before) s w
    held_cell s w l h = cell_held A means f.size some (of_level f.size (2 ^ (k + 1)) 0) (by_halves A f (cell_of A f.size (map means before))) before after r s w l h

    other_size : (s w : ℕ) → w < f.size → (ones s ≡ 2 ^ (k + 1) → ⊥) → cell_of A f.size (map means after) s w ≡ cell_of A f.size (map means before) s w
    other_size s w l h = held_cell s w l (not_due A L means f f.size (2 ^ (k + 1)) 0 before after refl some fits r s w (λ e _. h e))

    no_member : (s w : ℕ) → w < f.size → has s w ≡ false → cell_of A f.size (map means after) s w ≡ cell_of A f.size (map means before) s w
    no_member s w l h = held_cell s w l (and_right _ _ (and_right (wanted (2 ^ (k + 1)) 0 s) (has s w) h))

    member : (s w : ℕ) → s < 2 ^ f.size → w < f.size → ones s ≡ 2 ^ (k + 1) → has s w ≡ true → cell_of A f.size (map means after) s w ≡ figure A f s w
    member s w h l o t =
        cell_fresh A L means f f.size (2 ^ (k + 1)) 0 before after refl some fits r s w h l
        (due A L means f f.size (2 ^ (k + 1)) 0 before after refl some fits r s w h o (and_comm s 0) t)
        ∙ by_halves_same A f s w (cell_of A f.size (map means before)) (figure A f)
        (λ a e u v i. p.figures a e (omega arith) (member_lt f.size a e (omega arith) (bit_true a e i)) (omega (arith, twice k)))
        ∙ sym (by_halves_lem A L f s w h (λ one. omega (arith, twice k, pow_pos k)))

    figures : (s w : ℕ) → s < 2 ^ f.size → w < f.size → ones s ≤ 2 ^ (k + 1) → (ones s ≡ 2 ^ (k + 1)) ⊎ (ones s ≡ 2 ^ (k + 1) → ⊥)
        → (has s w ≡ true) ⊎ (has s w ≡ false) → (2 ^ k < ones s) ⊎ (ones s ≤ 2 ^ k) → cell_of A f.size (map means after) s w ≡ figure A f s w
    figures s w h l o (inl e) (inl t) c = member s w h l e t
    figures s w h l o (inl e) (inr t) c = no_member s w l t ∙ p.rest s w h l (omega (arith, twice k, pow_pos k)) ∙ sym (none_outside A L f s w t)
    figures s w h l o (inr e) t (inl c) =
        other_size s w l e ∙ p.rest s w h l c ∙ sym (none_off_powers A L f s w (λ j q. no_power k j (ones s) c (omega (arith, o, e)) q))
    figures s w h l o (inr e) t (inr c) = other_size s w l e ∙ p.figures s w h l c

    -- one level more
    pub risen : FilledTo A f (k + 1) (map means after)
    risen =
        record {
          figures = λ s w h l o. figures s w h l o (cases_eq (ones s) (2 ^ (k + 1))) (bool_ways (has s w)) (cases_lt (2 ^ k) (ones s));
          rest = λ s w h l o. other_size s w l (λ e. omega (arith, o, e)) ∙ p.rest s w h l (omega (arith, o, twice k, pow_pos k));
        }

  module _ (ys zs : List V) (fits : 2 ^ f.size * f.size ≤ length ys) (c : Blank A (2 ^ f.size * f.size) (map means ys))
      (r : Renewal A means f.size (of_singles f.size) (λ _ _. A.one) ys zs) where
    seat : (s w : ℕ) → s < 2 ^ f.size → w < f.size → s ≡ 2 ^ w → cell_of A f.size (map means zs) s w ≡ A.one
    unfolding cell_of
    seat s w h l e =
        let u : s * f.size + w < length ys = omega (arith, mul-add-lt s f.size w (2 ^ f.size) h l, fits) in
        r.fresh (s * f.size + w) u
        (ap₂ (of_singles f.size) (div-mul-add s f.size w l) (mod-mul-add s f.size w l) ∙ and_from _ _ (eq-eqb s (2 ^ w) e) (lt-ltb w f.size l))

    still_nothing : (s w : ℕ) → s < 2 ^ f.size → w < f.size → cell_of A f.size (map means ys) s w ≡ A.nothing
    unfolding cell_of
    still_nothing s w h l = c (s * f.size + w) (omega (arith, mul-add-lt s f.size w (2 ^ f.size) h l))

    no_seat : (s w : ℕ) → s < 2 ^ f.size → w < f.size → (s ≡ 2 ^ w → ⊥) → cell_of A f.size (map means zs) s w ≡ A.nothing
    no_seat s w h l e =
        cell_held A means f.size some (of_singles f.size) (λ _ _. A.one) ys zs r s w l (and_left _ _ (ne_eqb s (2 ^ w) e)) ∙ still_nothing s w h l

    nobody_there : (s w : ℕ) → ones s ≤ 1 → (s ≡ 2 ^ w → ⊥) → (has s w ≡ true) ⊎ (has s w ≡ false) → (ones s ≡ 1) ⊎ (ones s ≡ 1 → ⊥) → figure A f s w ≡ A.nothing
    nobody_there s w o e (inr t) u = none_outside A L f s w t
    nobody_there s w o e (inl t) (inl u) = absurd (e (ones_one w s (bit_true s w t) u))
    nobody_there s w o e (inl t) (inr u) = none_off_powers A L f s w (λ j q. omega (arith, o, u, q, pow_pos j))

    seats : (s w : ℕ) → s < 2 ^ f.size → w < f.size → ones s ≤ 1 → (s ≡ 2 ^ w) ⊎ (s ≡ 2 ^ w → ⊥) → cell_of A f.size (map means zs) s w ≡ figure A f s w
    seats s w h l o (inl e) =
        seat s w h l e ∙ sym (ap (λ (x : ℕ). figure A f x w) e ∙ of_one A L f w w l ∙ ap (λ b. cond b A.one A.nothing) (eq-eqb w w refl))
    seats s w h l o (inr e) = no_seat s w h l e ∙ sym (nobody_there s w o e (bool_ways (has s w)) (cases_eq (ones s) 1))

    -- where everything means nothing and the single entrants are seated, level 0 is filled
    pub begun : FilledTo A f 0 (map means zs)
    begun =
        record {
          figures = λ s w h l o. seats s w h l o (cases_eq s (2 ^ w));
          rest = λ s w h l o. no_seat s w h l (λ e. omega (arith, o, ap ones e ∙ ones_pow w));
        }

  -- where every level up to that of all entrants is filled, the table is in order
  pub all_filled_lem : (k : ℕ) (cells : List M) → f.size ≤ 2 ^ k → FilledTo A f k cells → InOrder A f cells
  all_filled_lem k cells top p s w h l = p.figures s w h l (omega (arith, ones-le f.size s h, top))

-- the same of a stage of n entrants, whatever the field of that size
pub started : {V M : Type 0} (A : Semiring M) → LawfulSemiring A → (means : V → M) (f : Field) (n : ℕ) (ys zs : List V) → f.size ≡ n → 0 < n → needed n ≤ length ys
    → Blank A (needed n) (map means ys) → Renewal A means n (of_singles n) (λ _ _. A.one) ys zs → FilledTo A f 0 (map means zs)
started A L means f n ys zs e some fits blank r =
    let P : ℕ → Type 0 = λ m. 0 < m → needed m ≤ length ys → Blank A (needed m) (map means ys) → Renewal A means m (of_singles m) (λ _ _. A.one) ys zs → FilledTo A f 0 (map means zs) in
    subst P e (λ s h b q. begun A L means f s ys zs h b q) some fits blank r

pub one_more_level : {V M : Type 0} (A : Semiring M) → LawfulSemiring A → (means : V → M) (f : Field) (n k : ℕ) (ys zs : List V) → f.size ≡ n → 0 < n → needed n ≤ length ys
    → Renewal A means n (of_level n (2 ^ (k + 1)) 0) (by_halves A f (cell_of A n (map means ys))) ys zs → FilledTo A f k (map means ys) → FilledTo A f (k + 1) (map means zs)
one_more_level A L means f n k ys zs e some fits r p =
    let P : ℕ → Type 0 = λ m. 0 < m → needed m ≤ length ys → Renewal A means m (of_level m (2 ^ (k + 1)) 0) (by_halves A f (cell_of A m (map means ys))) ys zs → FilledTo A f (k + 1) (map means zs) in
    subst P e (λ s h q. risen A L means f s k ys zs h q p) some fits r
