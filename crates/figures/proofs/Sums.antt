-- Sums over lists in a lawful algebra. Assumes nothing.
use Rattle.std.proofs.Common.{◌≡◌, ℕ, zero, suc, ◌+◌, ◌-◌, ◌<◌, ◌≤◌, Bool, true, false, cond, not, ◌&&◌, eqb, List, [], ◌∷◌, ◌++◌, map, filter, sym, refl, ap, ◌∙◌, ap₂, inl, inr, add-zero, zero-add, arith}
use Rattle.std.specs.List.{range_with_len}
use Rattle.algebra.specs.Semirings.{Semiring, LawfulSemiring}
use Rattle.figures.specs.Sums.{over}
use Rattle.std.proofs.lemmas.Bool.{eq-eqb, ne_eqb, cases_eq, cases_Bool}
use Rattle.figures.specs.Lists.{In, gather}

-- x where the test passes, and nothing elsewhere
unfoldable pub when : {M : Type 0} → Semiring M → Bool → M → M
when A b x = cond b x A.nothing

-- what needs no law
module _ {M : Type 0} (A : Semiring M) where
  pub over_same : {B : Type 0} (xs : List B) (f g : B → M) → ((x : B) → f x ≡ g x) → over A xs f ≡ over A xs g
  unfolding over
  over_same [] f g h = refl
  over_same (x ∷ xs) f g h = ap₂ A.plus (h x) (over_same xs f g h)

  pub over_same_in : {B : Type 0} (xs : List B) (f g : B → M) → ((x : B) → In x xs → f x ≡ g x) → over A xs f ≡ over A xs g
  unfolding over
  over_same_in [] f g h = refl
  over_same_in (x ∷ xs) f g h = ap₂ A.plus (h x (inl refl)) (over_same_in xs f g (λ y i. h y (inr i)))

  pub over_map : {B C : Type 0} (h : B → C) (xs : List B) (f : C → M) → over A (map h xs) f ≡ over A xs (λ x. f (h x))
  unfolding over
  over_map h [] f = refl
  over_map h (x ∷ xs) f = ap (A.plus (f (h x))) (over_map h xs f)

module _ {M : Type 0} (A : Semiring M) (L : LawfulSemiring A) where
  pub plus_nothing_r : (x : M) → A.plus x A.nothing ≡ x
  plus_nothing_r x = L.plus_comm x A.nothing ∙ L.plus_nothing x

  -- (a + b) + (c + d) ≡ (a + c) + (b + d)
  pub plus_swap : (a b c d : M) → A.plus (A.plus a b) (A.plus c d) ≡ A.plus (A.plus a c) (A.plus b d)
  plus_swap a b c d = cc (L.plus_assoc a b (A.plus c d), L.plus_assoc b c d, L.plus_comm b c, L.plus_assoc c b d, L.plus_assoc a c (A.plus b d))

  pub times_nothing_r : (x : M) → A.times x A.nothing ≡ A.nothing
  times_nothing_r x = L.times_comm x A.nothing ∙ L.times_nothing x

  pub over_append : {B : Type 0} (xs ys : List B) (f : B → M) → over A (xs ++ ys) f ≡ A.plus (over A xs f) (over A ys f)
  unfolding over
  over_append [] ys f = sym (L.plus_nothing (over A ys f))
  over_append (x ∷ xs) ys f = ap (A.plus (f x)) (over_append xs ys f) ∙ sym (L.plus_assoc (f x) (over A xs f) (over A ys f))

  pub over_gather : {B C : Type 0} (xs : List B) (g : B → List C) (f : C → M) → over A (gather xs g) f ≡ over A xs (λ x. over A (g x) f)
  unfolding over gather
  over_gather [] g f = refl
  over_gather (x ∷ xs) g f = over_append (g x) (gather xs g) f ∙ ap (A.plus (over A (g x) f)) (over_gather xs g f)

  pub over_kept : {B : Type 0} (p : B → Bool) (xs : List B) (f : B → M) → over A (filter p xs) f ≡ over A xs (λ x. when A (p x) (f x))
  unfolding over when
  over_kept p [] f = refl
  over_kept p (x ∷ xs) f = elim (cases_Bool (p x)) [
    | inl g ↦ rw (g, over) (ap (A.plus (f x)) (over_kept p xs f))
    | inr g ↦ rw (g, over) (over_kept p xs f ∙ sym (L.plus_nothing (over A xs (λ y. when A (p y) (f y)))))
  ]

  pub over_nothing : {B : Type 0} (xs : List B) → over A xs (λ x. A.nothing) ≡ A.nothing
  unfolding over
  over_nothing [] = refl
  over_nothing (x ∷ xs) = ap (A.plus A.nothing) (over_nothing xs) ∙ L.plus_nothing A.nothing

  pub over_plus : {B : Type 0} (xs : List B) (f g : B → M) → over A xs (λ x. A.plus (f x) (g x)) ≡ A.plus (over A xs f) (over A xs g)
  unfolding over
  over_plus [] f g = sym (L.plus_nothing A.nothing)
  over_plus (x ∷ xs) f g = ap (A.plus (A.plus (f x) (g x))) (over_plus xs f g) ∙ plus_swap (f x) (g x) (over A xs f) (over A xs g)

  pub over_times : {B : Type 0} (c : M) (xs : List B) (f : B → M) → over A xs (λ x. A.times c (f x)) ≡ A.times c (over A xs f)
  unfolding over
  over_times c [] f = sym (times_nothing_r c)
  over_times c (x ∷ xs) f = ap (A.plus (A.times c (f x))) (over_times c xs f) ∙ sym (L.times_plus c (f x) (over A xs f))

  -- two sums may change places
  pub over_swap : {B C : Type 0} (xs : List B) (ys : List C) (f : B → C → M)
      → over A xs (λ x. over A ys (λ y. f x y)) ≡ over A ys (λ y. over A xs (λ x. f x y))
  unfolding over
  over_swap [] ys f = sym (over_nothing ys)
  over_swap (x ∷ xs) ys f =
      ap (A.plus (over A ys (f x))) (over_swap xs ys f) ∙ sym (over_plus ys (f x) (λ y. over A xs (λ z. f z y)))

  -- ---- sums over 0, .., n - 1

  -- one more at the end
  pub range_last : (a n : ℕ) (f : ℕ → M) → over A (range_with_len a (suc n)) f ≡ A.plus (over A (range_with_len a n) f) (f (a + n))
  unfolding over
  range_last a zero f =
      ap (λ x. A.plus (f x) A.nothing) (sym (add-zero a)) ∙ L.plus_comm (f (a + 0)) A.nothing
  range_last a (suc n) f =
      let e : a + 1 + n ≡ a + suc n = omega arith in
      ap (A.plus (f a)) (range_last (a + 1) n f)
      ∙ sym (L.plus_assoc (f a) (over A (range_with_len (a + 1) n) f) (f (a + 1 + n)))
      ∙ ap (λ x. A.plus (A.plus (f a) (over A (range_with_len (a + 1) n) f)) (f x)) e

  -- from a + 1 on, one at a time
  pub range_shift : (a n : ℕ) (f : ℕ → M) → over A (range_with_len (a + 1) n) f ≡ over A (range_with_len a n) (λ x. f (x + 1))
  unfolding over
  range_shift a zero f = refl
  range_shift a (suc n) f = ap (A.plus (f (a + 1))) (range_shift (a + 1) n f)

  -- backwards
  pub range_back : (n : ℕ) (f : ℕ → M) → over A (range_with_len 0 n) (λ x. f (n - suc x)) ≡ over A (range_with_len 0 n) f
  unfolding over
  range_back zero f = refl
  range_back (suc n) f =
      let first : f (suc n - 1) ≡ f n = ap f (omega arith) in
      let same : (x : ℕ) → f (suc n - suc (x + 1)) ≡ f (n - suc x) = λ x. ap f (omega arith) in
      ap₂ A.plus first (range_shift 0 n (λ x. f (suc n - suc x)) ∙ over_same A (range_with_len 0 n) (λ x. f (suc n - suc (x + 1))) (λ x. f (n - suc x)) same ∙ range_back n f)
      ∙ L.plus_comm (f n) (over A (range_with_len 0 n) f)
      ∙ ap (λ x. A.plus (over A (range_with_len 0 n) f) (f x)) (sym (zero-add n))
      ∙ sym (range_last 0 n f)

  -- ---- the one term that a test keeps

  pick_none : (c n : ℕ) (f : ℕ → M) → n ≤ c → over A (range_with_len 0 n) (λ b. when A (eqb c b) (f b)) ≡ A.nothing
  unfolding over when
  pick_none c zero f h = refl
  pick_none c (suc n) f h =
      let off : eqb c (0 + n) ≡ false = ne_eqb c (0 + n) (λ e. omega arith) in
      range_last 0 n (λ b. when A (eqb c b) (f b))
      ∙ ap₂ A.plus (pick_none c n f (omega arith)) (ap (λ b. when A b (f (0 + n))) off)
      ∙ L.plus_nothing A.nothing

  pub pick_one : (c n : ℕ) (f : ℕ → M) → c < n → over A (range_with_len 0 n) (λ b. when A (eqb c b) (f b)) ≡ f c
  unfolding over when
  pick_one c zero f h = absurd (omega arith)
  pick_one c (suc n) f h = range_last 0 n (λ b. when A (eqb c b) (f b)) ∙ elim (cases_eq c (0 + n)) [
    | inl e ↦
        ap₂ A.plus (pick_none c n f (omega arith)) (ap (λ b. when A b (f (0 + n))) (eq-eqb c (0 + n) e))
        ∙ L.plus_nothing (f (0 + n)) ∙ ap f (sym e)
    | inr e ↦
        ap₂ A.plus (pick_one c n f (omega arith)) (ap (λ b. when A b (f (0 + n))) (ne_eqb c (0 + n) e)) ∙ plus_nothing_r (f c)
  ]

  pub when_nothing : (b : Bool) → when A b A.nothing ≡ A.nothing
  unfolding when
  when_nothing true = refl
  when_nothing false = refl

  pub when_swap : (b c : Bool) (x : M) → when A b (when A c x) ≡ when A c (when A b x)
  unfolding when
  when_swap true c x = refl
  when_swap false c x = sym (when_nothing c)

  pub when_both : (b c : Bool) (x : M) → when A (b && c) x ≡ when A b (when A c x)
  unfolding when
  when_both true c x = refl
  when_both false c x = refl

  pub when_plus : (b : Bool) (x y : M) → when A b (A.plus x y) ≡ A.plus (when A b x) (when A b y)
  unfolding when
  when_plus true x y = refl
  when_plus false x y = sym (L.plus_nothing A.nothing)

  -- a test and its contrary
  pub when_not : (b : Bool) (x : M) → A.plus (when A b x) (when A (not b) x) ≡ x
  unfolding when
  when_not true x = plus_nothing_r x
  when_not false x = L.plus_nothing x

  pub over_times_r : {B : Type 0} (c : M) (xs : List B) (f : B → M) → over A xs (λ x. A.times (f x) c) ≡ A.times (over A xs f) c
  over_times_r c xs f =
      over_same A xs (λ x. A.times (f x) c) (λ x. A.times c (f x)) (λ x. L.times_comm (f x) c)
      ∙ over_times c xs f ∙ L.times_comm c (over A xs f)
