-- What a filter, a range, a map and a gathering hold, and how long a list is that has each thing once. Assumes nothing.
use Rattle.std.proofs.Common.{◌≡◌, ℕ, zero, suc, ◌+◌, ◌<◌, ◌≤◌, Bool, true, false, cond, ◌⊎◌, List, [], ◌∷◌, ◌++◌, map, filter, sym, refl, ap, ◌∙◌, subst, ap₂, inl, inr, length, length-append, arith}
use Rattle.std.specs.List.{range_with_len}
use Rattle.std.proofs.lemmas.Bool.{cases_eq, cases_Bool}
use Rattle.figures.specs.Lists.{In, Distinct, gather}

pub in_left : {X : Type 0} (x : X) (xs ys : List X) → In x xs → In x (xs ++ ys)
in_left x [] ys h = absurd h
in_left x (y ∷ xs) ys (inl e) = inl e
in_left x (y ∷ xs) ys (inr h) = inr (in_left x xs ys h)

pub in_right : {X : Type 0} (x : X) (xs ys : List X) → In x ys → In x (xs ++ ys)
in_right x [] ys h = h
in_right x (y ∷ xs) ys h = inr (in_right x xs ys h)

pub in_either : {X : Type 0} (x : X) (xs ys : List X) → In x (xs ++ ys) → In x xs ⊎ In x ys
in_either x [] ys h = inr h
in_either x (y ∷ xs) ys (inl e) = inl (inl e)
in_either x (y ∷ xs) ys (inr h) = elim (in_either x xs ys h) [ inl p ↦ inl (inr p) | inr p ↦ inr p ]

pub in_kept : {X : Type 0} (p : X → Bool) (x : X) (xs : List X) → In x xs → p x ≡ true → In x (filter p xs)
in_kept p x [] h e = h
in_kept p x (y ∷ xs) (inl q) e = rw (← q, e) (inl refl)
in_kept p x (y ∷ xs) (inr h) e = elim (cases_Bool (p y)) [ inl g ↦ rw g (inr (in_kept p x xs h e)) | inr g ↦ rw g (in_kept p x xs h e) ]

pub kept_in : {X : Type 0} (p : X → Bool) (x : X) (xs : List X) → In x (filter p xs) → In x xs × (p x ≡ true)
kept_in p x [] h = absurd h
kept_in {X} p x (y ∷ xs) h = go (p y) refl (kept_in p x xs) h
  where
    go : (b : Bool) → p y ≡ b → (In x (filter p xs) → In x xs × (p x ≡ true)) → In x (cond b (y ∷ filter p xs) (filter p xs))
        → ((x ≡ y) ⊎ In x xs) × (p x ≡ true)
    go true e ih (inl q) = (inl q, ap p q ∙ e)
    go true e ih (inr i) = (inr (ih i).0, (ih i).1)
    go false e ih i = (inr (ih i).0, (ih i).1)

pub in_counting : (x a n : ℕ) → a ≤ x → x < a + n → In x (range_with_len a n)
in_counting x a zero l h = omega arith
in_counting x a (suc n) l h = elim (cases_eq x a) [ inl e ↦ inl e | inr e ↦ inr (in_counting x (a + 1) n (omega arith) (omega arith)) ]

pub counting_in : (x a n : ℕ) → In x (range_with_len a n) → (a ≤ x) × (x < a + n)
counting_in x a zero h = absurd h
counting_in x a (suc n) (inl e) = omega arith
counting_in x a (suc n) (inr h) = let ih = counting_in x (a + 1) n h in omega arith

pub in_map : {X Y : Type 0} (f : X → Y) (x : X) (xs : List X) → In x xs → In (f x) (map f xs)
in_map f x [] h = h
in_map f x (y ∷ xs) (inl e) = inl (ap f e)
in_map f x (y ∷ xs) (inr h) = inr (in_map f x xs h)

pub map_in : {X Y : Type 0} (f : X → Y) (y : Y) (xs : List X) → In y (map f xs) → (x : X) × In x xs × (y ≡ f x)
map_in f y [] h = absurd h
map_in f y (x ∷ xs) (inl e) = (x, inl refl, e)
map_in f y (x ∷ xs) (inr h) = let r = map_in f y xs h in (r.0, inr r.1, r.2)

pub in_gather : {X Y : Type 0} (f : X → List Y) (x : X) (y : Y) (xs : List X) → In x xs → In y (f x) → In y (gather xs f)
unfolding gather
in_gather f x y [] h i = absurd h
in_gather f x y (z ∷ xs) (inl e) i = in_left y (f z) (gather xs f) (rw (← e) i)
in_gather f x y (z ∷ xs) (inr h) i = in_right y (f z) (gather xs f) (in_gather f x y xs h i)

pub gather_in : {X Y : Type 0} (f : X → List Y) (y : Y) (xs : List X) → In y (gather xs f) → (x : X) × In x xs × In y (f x)
unfolding gather
gather_in f y [] h = absurd h
gather_in f y (z ∷ xs) h = elim (in_either y (f z) (gather xs f) h) [
  | inl i ↦ (z, inl refl, i)
  | inr i ↦ (let r = gather_in f y xs i in (r.0, inr r.1, r.2))
]

pub gather_same : {X Y : Type 0} (xs : List X) (p q : X → List Y) → ((x : X) → p x ≡ q x) → gather xs p ≡ gather xs q
unfolding gather
gather_same [] p q h = refl
gather_same (x ∷ xs) p q h = ap₂ (λ ys zs. ys ++ zs) (h x) (gather_same xs p q h)

-- ---- lists that have each thing once

-- where x stands in ys
pub record Found {X : Type 0} (x : X) (ys : List X) : Type 0 where
  pub before : List X
  pub after : List X
  pub is : ys ≡ before ++ x ∷ after

pub found : {X : Type 0} (x : X) (ys : List X) → In x ys → Found x ys
found x [] h = absurd h
found x (y ∷ ys) (inl e) = record { before = []; after = ys; is = ap (λ z. z ∷ ys) (sym e) }
found x (y ∷ ys) (inr h) = let r = found x ys h in record { before = y ∷ r.before; after = r.after; is = ap (λ zs. y ∷ zs) r.is }

-- what xs has besides x stands elsewhere in ys
pub elsewhere : {X : Type 0} (x : X) (xs ys : List X) → Distinct (x ∷ xs) → ((z : X) → In z (x ∷ xs) → In z ys) → (r : Found x ys) → (z : X) → In z xs → In z (r.before ++ r.after)
elsewhere {X} x xs ys d to r z i = go (in_either z r.before (x ∷ r.after) (subst (In z) r.is (to z (inr i))))
  where
    go : In z r.before ⊎ ((z ≡ x) ⊎ In z r.after) → In z (r.before ++ r.after)
    go (inl j) = in_left z r.before r.after j
    go (inr (inl q)) = absurd (d.0 (subst (λ v. In v xs) q i))
    go (inr (inr j)) = in_right z r.before r.after j

-- a list that has each thing once is no longer than one that has all of them
pub no_longer : {X : Type 0} (xs ys : List X) → Distinct xs → ((x : X) → In x xs → In x ys) → length xs ≤ length ys
no_longer [] ys d to = omega arith
no_longer (x ∷ xs) ys d to =
    let r = found x ys (to x (inl refl)) in
    let l = no_longer xs (r.before ++ r.after) d.1 (elsewhere x xs ys d to r) in
    omega (arith, ap length r.is, length-append r.before (x ∷ r.after), length-append r.before r.after)

pub same_length : {X : Type 0} (xs ys : List X) → Distinct xs → Distinct ys → ((x : X) → In x xs → In x ys) → ((x : X) → In x ys → In x xs) → length xs ≡ length ys
same_length xs ys d e to back = omega (arith, no_longer xs ys d to, no_longer ys xs e back)
