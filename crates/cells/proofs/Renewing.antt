-- One refresh after another. Assumes nothing.
use Rattle.std.proofs.Common.{◌≡◌, ℕ, zero, suc, ◌+◌, ◌-◌, ◌*◌, ◌/◌, ◌%◌, ◌^◌, ◌<◌, ◌≤◌, Bool, true, false, ◌&&◌, ◌||◌, eqb, ltb, ◌⊎◌, List, [], ◌∷◌, ◌++◌, map, length, get_or, set, sym, refl, ap, ◌∙◌, subst, ap₂, inl, inr, arith, length-set, get_or-set_other, get_or-set_same}
use lib.Count.{ones}
use lib.Seq.{map-set}
use Rattle.std.proofs.lemmas.Nat.{div-mul-add, mod-mul-add, mod_below, div-add-mod'}
use Rattle.std.specs.List.{list_any}
use Rattle.std.proofs.lemmas.List.{length-map}
use Rattle.std.proofs.lemmas.List.Folds.{list_any-append}
use Rattle.std.proofs.lemmas.Bool.{eqb-true, eq-eqb, ne_eqb, and_parts, and_from, and_right, or_parts, cases_eq, cases_lt, lt-ltb, le-ltb, both_ways}
use Rattle.algebra.specs.Semirings.{Semiring}
use Rattle.figures.specs.Lists.{In}
use Rattle.figures.specs.Sets.{has, members, halves, all_members}
use Rattle.figures.proofs.Sums.{over_same_in}
use Rattle.figures.proofs.Champions.{halves_in, members_in}
use Rattle.figures.proofs.Bits.{half_parts, part_le, ones_sub, ones_some, bit_true, member_lt}
use Rattle.cells.specs.Renewal.{cell_of, weight_of, Renewal, of_set, wanted}
use Rattle.cells.specs.Splits.{of_size, meeting, by_halves_with, sum_of}
use Rattle.figures.proofs.Members.{all_in, in_all}

-- those entrants' cells of s that are written
abbrev pub written : ℕ → List ℕ → ℕ → ℕ → Bool
written s done x y = eqb x s && list_any (eqb y) done

-- the members of the wanted sets below i
abbrev pub sets_below : ℕ → ℕ → ℕ → ℕ → ℕ → Bool
sets_below size must i x y = ltb x i && (wanted size must x && has x y)

-- values that are held mean the same
pub map_held : {V M : Type 0} (f : V → M) (xs ys : List V) (i : ℕ) (z : M) → length xs ≡ length ys → ((d : V) → get_or xs i d ≡ get_or ys i d) → get_or (map f xs) i z ≡ get_or (map f ys) i z
map_held f [] [] i z e h = refl
map_held f [] (y ∷ ys) i z e h = absurd (omega arith)
map_held f (x ∷ xs) [] i z e h = absurd (omega arith)
map_held f (x ∷ xs) (y ∷ ys) zero z e h = ap f (h x)
map_held f (x ∷ xs) (y ∷ ys) (suc i) z e h = map_held f xs ys i z (omega arith) h

-- ---- sums that read the same cells

module _ {M : Type 0} (A : Semiring M) where
  -- only the cells of the halves' members count
  pub sums_alike : (weight other : ℕ → ℕ → M) (n s w : ℕ) (f g : ℕ → ℕ → M) → w < n → ((b : ℕ) → b < n → weight w b ≡ other w b)
      → ((a e : ℕ) → a ≤ s → 2 * ones a ≡ ones s → e < n → has a e ≡ true → f a e ≡ g a e) → by_halves_with A weight n f s w ≡ by_halves_with A other n g s w
  unfolding by_halves_with meeting
  sums_alike weight other n s w f g l t h =
      over_same_in A (halves (of_size n) s w) _ _ (λ a i.
      let in-a = halves_in (of_size n) s w a i in
      let p = half_parts s a in-a.0 in
      let u = part_le a s p.0 in
      let q = ones_sub a s p.0 in
      let r = p.1 in
      over_same_in A (members (of_size n) (s - a)) _ _ (λ b j.
      let m = members_in (of_size n) (s - a) b j in
      ap₂ A.times (ap₂ A.times (h a w u r l in-a.1) (h (s - a) b (omega arith) (omega arith) m.1 m.0)) (t b m.1)))

  pub sums_same : (weight : ℕ → ℕ → M) (n s w : ℕ) (f g : ℕ → ℕ → M) → w < n
      → ((a e : ℕ) → a ≤ s → 2 * ones a ≡ ones s → e < n → f a e ≡ g a e) → by_halves_with A weight n f s w ≡ by_halves_with A weight n g s w
  sums_same weight n s w f g l h = sums_alike weight weight n s w f g l (λ b k. refl) (λ a e u v m _. h a e u v m)

module _ {V M : Type 0} (A : Semiring M) (means : V → M) (n : ℕ) (some : 0 < n) where
  -- the same cells, told by another test
  pub same_due : (D E : ℕ → ℕ → Bool) (value : ℕ → ℕ → M) (xs ys : List V) → Renewal A means n D value xs ys → ((x y : ℕ) → y < n → E x y ≡ D x y)
      → Renewal A means n E value xs ys
  same_due D E value xs ys r q = record {
    same_length = r.same_length;
    fresh = λ i l h. r.fresh i l (sym (q (i / n) (i % n) (mod_below i n some)) ∙ h);
    held = λ i d h. r.held i d (sym (q (i / n) (i % n) (mod_below i n some)) ∙ h);
  }

  -- values that are the same where they are due
  pub same_value : (D : ℕ → ℕ → Bool) (value other : ℕ → ℕ → M) (xs ys : List V) → Renewal A means n D value xs ys
      → ((x y : ℕ) → y < n → D x y ≡ true → value x y ≡ other x y) → Renewal A means n D other xs ys
  same_value D value other xs ys r q = record {
    same_length = r.same_length;
    fresh = λ i l h. r.fresh i l h ∙ q (i / n) (i % n) (mod_below i n some) h;
    held = r.held;
  }

  -- one refresh, then another
  pub after : (D E F : ℕ → ℕ → Bool) (value other : ℕ → ℕ → M) (xs ys zs : List V) → Renewal A means n D value xs ys → Renewal A means n E other ys zs
      → ((x y : ℕ) → y < n → E x y ≡ true → other x y ≡ value x y) → ((x y : ℕ) → y < n → F x y ≡ (D x y || E x y)) → Renewal A means n F value xs zs
  after D E F value other xs ys zs r t same q = record {
    same_length = t.same_length ∙ r.same_length;
    fresh = λ i l h. fresh_at i l (E (i / n) (i % n)) refl (sym (q (i / n) (i % n) (mod_below i n some)) ∙ h);
    held = λ i d h.
        let p = or_parts (D (i / n) (i % n)) (E (i / n) (i % n)) (sym (q (i / n) (i % n) (mod_below i n some)) ∙ h) in
        t.held i d p.1 ∙ r.held i d p.0;
  }
    where
      or_false : (b : Bool) → (b || false) ≡ true → b ≡ true
      or_false true h = refl
      or_false false h = h

      fresh_at : (i : ℕ) → i < length xs → (e : Bool) → E (i / n) (i % n) ≡ e → (D (i / n) (i % n) || E (i / n) (i % n)) ≡ true
          → get_or (map means zs) i A.nothing ≡ value (i / n) (i % n)
      fresh_at i l true e h =
          t.fresh i (omega (arith, r.same_length)) e ∙ same (i / n) (i % n) (mod_below i n some) e
      fresh_at i l false e h =
          map_held means zs ys i A.nothing t.same_length (λ d. t.held i d e)
          ∙ r.fresh i l (or_false (D (i / n) (i % n)) (ap (λ b. D (i / n) (i % n) || b) (sym e) ∙ h))

  -- one cell written
  pub wrote : (s w : ℕ) (v : V) (value : ℕ → ℕ → M) (xs : List V) → w < n → s * n + w < length xs → means v ≡ value s w
      → Renewal A means n (λ x y. eqb x s && eqb y w) value xs (set xs (s * n + w) v)
  wrote s w v value xs l u e = record {
    same_length = length-set xs (s * n + w) v;
    fresh = λ i k h.
        let p = and_parts (eqb (i / n) s) (eqb (i % n) w) h in
        let a = eqb-true (i / n) s p.0 in
        let b = eqb-true (i % n) w p.1 in
        let j : i ≡ s * n + w = sym (div-add-mod' i n) ∙ ap₂ (λ (x y : ℕ). x * n + y) a b in
        ap₂ (λ zs (x : ℕ). get_or zs x A.nothing) (map-set means xs (s * n + w) v) j
        ∙ get_or-set_same (map means xs) (s * n + w) (means v) A.nothing (omega (arith, length-map xs means))
        ∙ e ∙ ap₂ value (sym a) (sym b);
    held = λ i d h. get_or-set_other xs (s * n + w) i v d (λ j. both_ways _ h (and_from _ _
        (eq-eqb (i / n) s (ap (λ (x : ℕ). x / n) j ∙ div-mul-add s n w l))
        (eq-eqb (i % n) w (ap (λ (x : ℕ). x % n) j ∙ mod-mul-add s n w l))));
  }

  -- a cell that is not due means what it meant
  pub cell_held : (D : ℕ → ℕ → Bool) (value : ℕ → ℕ → M) (xs ys : List V) → Renewal A means n D value xs ys
      → (a e : ℕ) → e < n → D a e ≡ false → cell_of A n (map means ys) a e ≡ cell_of A n (map means xs) a e
  unfolding cell_of
  cell_held D value xs ys r a e l h =
      map_held means ys xs (a * n + e) A.nothing r.same_length (λ d. r.held (a * n + e) d (ap₂ D (div-mul-add a n e l) (mod-mul-add a n e l) ∙ h))

pub size_of : (size must x : ℕ) → wanted size must x ≡ true → ones x ≡ size
unfolding wanted
size_of size must x h = eqb-true (ones x) size (and_parts _ _ h).0

-- a set with members is no half of itself
pub no_own_half : (s w a : ℕ) → has s w ≡ true → 2 * ones a ≡ ones s → ones a ≡ ones s → ⊥
no_own_half s w a h p q = let k = ones_some w s (bit_true s w h) in omega arith

-- ---- one more cell, one more set

pub ltb_more : (y w : ℕ) → (y ≡ w → ⊥) → ltb y (w + 1) ≡ ltb y w
ltb_more y w e = go (cases_lt y w)
  where
    go : (y < w) ⊎ (w ≤ y) → ltb y (w + 1) ≡ ltb y w
    go (inl l) = lt-ltb y (w + 1) (omega arith) ∙ sym (lt-ltb y w l)
    go (inr l) = le-ltb y (w + 1) (let k : y ≡ w → ⊥ = e in omega arith) ∙ sym (le-ltb y w l)

written_more : (s : ℕ) (done : List ℕ) (w x y : ℕ) → written s (done ++ w ∷ []) x y ≡ (written s done x y || (eqb x s && eqb y w))
written_more s done w x y = rw (list_any-append (eqb y) done (w ∷ [])) (go (eqb x s) (list_any (eqb y) done) (eqb y w))
  where
    go : (p q r : Bool) → (p && (q || (r || false))) ≡ ((p && q) || (p && r))
    go true true r = refl
    go true false true = refl
    go true false false = refl
    go false q r = refl

any_in : (y : ℕ) (xs : List ℕ) → list_any (eqb y) xs ≡ true → In y xs
any_in y [] h = absurd (both_ways false refl h)
any_in y (x ∷ xs) h = go (any_in y xs) (eqb y x) refl h
  where
    go : (list_any (eqb y) xs ≡ true → In y xs) → (b : Bool) → eqb y x ≡ b → (b || list_any (eqb y) xs) ≡ true → (y ≡ x) ⊎ In y xs
    go ih true e k = inl (eqb-true y x e)
    go ih false e k = inr (ih k)

in_any : (y : ℕ) (xs : List ℕ) → In y xs → list_any (eqb y) xs ≡ true
in_any y [] h = absurd h
in_any y (x ∷ xs) (inl e) = ap (λ b. b || list_any (eqb y) xs) (eq-eqb y x e)
in_any y (x ∷ xs) (inr h) = ap (λ b. eqb y x || b) (in_any y xs h) ∙ or_right (eqb y x)
  where
    or_right : (b : Bool) → (b || true) ≡ true
    or_right true = refl
    or_right false = refl

written_all : (n s x y : ℕ) → n ≤ 32 → s < 2 ^ n → of_set s x y ≡ written s (all_members s) x y
written_all n s x y few h = ap (λ b. eqb x s && b) (go (has s y) refl (list_any (eqb y) (all_members s)) refl)
  where
    go : (a : Bool) → has s y ≡ a → (b : Bool) → list_any (eqb y) (all_members s) ≡ b → has s y ≡ list_any (eqb y) (all_members s)
    go true p b q = p ∙ sym (in_any y (all_members s) (in_all s y p (omega (arith, member_lt n s y h (bit_true s y p)))))
    go false p true q = absurd (both_ways (has s y) p (all_in s y (any_in y (all_members s) q)).0)
    go false p false q = p ∙ sym q

pub below_yes : (size must i x y : ℕ) → true ≡ wanted size must i → sets_below size must (i + 1) x y ≡ (sets_below size must i x y || of_set i x y)
below_yes size must i x y h = go (cases_eq x i)
  where
    left : (q : Bool) → q ≡ (q || false)
    left true = refl
    left false = refl

    go : (x ≡ i) ⊎ (x ≡ i → ⊥) → sets_below size must (i + 1) x y ≡ (sets_below size must i x y || of_set i x y)
    go (inl e) =
        let a : wanted size must x ≡ true = ap (wanted size must) e ∙ sym h in
        let b : ltb x (i + 1) ≡ true = lt-ltb x (i + 1) (omega arith) in
        let c : ltb x i ≡ false = le-ltb x i (omega arith) in
        let d : eqb x i ≡ true = eq-eqb x i e in
        let f : has x y ≡ has i y = ap (λ (z : ℕ). has z y) e in
        rw (a, b, c, d, f) refl
    go (inr e) =
        let b : ltb x (i + 1) ≡ ltb x i = ltb_more x i e in
        let d : eqb x i ≡ false = ne_eqb x i e in
        rw (b, d) (left (ltb x i && (wanted size must x && has x y)))

pub below_no : (size must i x y : ℕ) → false ≡ wanted size must i → sets_below size must (i + 1) x y ≡ sets_below size must i x y
below_no size must i x y h = go (cases_eq x i)
  where
    go : (x ≡ i) ⊎ (x ≡ i → ⊥) → sets_below size must (i + 1) x y ≡ sets_below size must i x y
    go (inl e) =
        let a : wanted size must x ≡ false = ap (wanted size must) e ∙ sym h in
        rw a (none_at (ltb x (i + 1)) (ltb x i))
      where
        none_at : (p q : Bool) → (p && false) ≡ (q && false)
        none_at true true = refl
        none_at true false = refl
        none_at false true = refl
        none_at false false = refl
    go (inr e) = ap (λ b. b && (wanted size must x && has x y)) (ltb_more x i e)

-- ---- a loop's step

module _ {V M : Type 0} (A : Semiring M) (means : V → M) (n : ℕ) (some : 0 < n) (grid : List V) where
  -- one cell of s more
  pub put_cell : (s w : ℕ) (done : List ℕ) (v : V) (xs ys : List V) → w < n → s * n + w < length ys
      → Renewal A means n (written s done) (sum_of A means n grid xs) xs ys → means v ≡ sum_of A means n grid xs s w
      → Renewal A means n (written s (done ++ w ∷ [])) (sum_of A means n grid xs) xs (set ys (s * n + w) v)
  put_cell s w done v xs ys l u r e =
      after A means n some (written s done) (λ x y. eqb x s && eqb y w) (written s (done ++ w ∷ [])) (sum_of A means n grid xs) (sum_of A means n grid xs) xs ys (set ys (s * n + w) v) r
      (wrote A means n some s w v (sum_of A means n grid xs) ys l u e)
      (λ x y k q. refl) (λ x y k. written_more s done w x y)

  -- all cells of s
  pub all_cells : (s : ℕ) (done : List ℕ) (xs ys : List V) → n ≤ 32 → s < 2 ^ n → done ≡ all_members s
      → Renewal A means n (written s done) (sum_of A means n grid xs) xs ys → Renewal A means n (of_set s) (sum_of A means n grid xs) xs ys
  all_cells s done xs ys few h z r =
      same_due A means n some (written s done) (of_set s) (sum_of A means n grid xs) xs ys r
      (λ x y k. written_all n s x y few h ∙ ap (λ (ws : List ℕ). written s ws x y) (sym z))

  -- one set more
  pub next_set : (size must i : ℕ) (xs ys zs : List V) → true ≡ wanted size must i → Renewal A means n (sets_below size must i) (sum_of A means n grid xs) xs ys
      → Renewal A means n (of_set i) (sum_of A means n grid ys) ys zs → Renewal A means n (sets_below size must (i + 1)) (sum_of A means n grid xs) xs zs
  next_set size must i xs ys zs h r t =
      after A means n some (sets_below size must i) (of_set i) (sets_below size must (i + 1)) (sum_of A means n grid xs) (sum_of A means n grid ys) xs ys zs r t
      (λ x y k q. again x y k q) (λ x y k. below_yes size must i x y h)
    where
      sized : (x : ℕ) → true ≡ wanted size must x → ones x ≡ size
      sized x q = size_of size must x (sym q)

      smaller : (a w e : ℕ) → has i w ≡ true → 2 * ones a ≡ ones i → (b : Bool) → wanted size must a ≡ b → (ltb a i && (b && has a e)) ≡ false
      smaller a w e q p true z = absurd (no_own_half i w a q p (size_of size must a z ∙ sym (sized i h)))
      smaller a w e q p false z = and_right (ltb a i) false refl

      again : (x y : ℕ) → y < n → of_set i x y ≡ true → sum_of A means n grid ys x y ≡ sum_of A means n grid xs x y
      again x y k q =
          let p = and_parts (eqb x i) (has i y) q in
          let e = eqb-true x i p.0 in
          ap (λ (z : ℕ). sum_of A means n grid ys z y) e
          ∙ sums_same A (weight_of A (map means grid)) n i y (cell_of A n (map means ys)) (cell_of A n (map means xs)) k (λ a e u v m.
          cell_held A means n some (sets_below size must i) (sum_of A means n grid xs) xs ys r a e m (smaller a y e p.1 v (wanted size must a) refl))
          ∙ ap (λ (z : ℕ). sum_of A means n grid xs z y) (sym e)

  pub no_set : (size must i : ℕ) (xs ys : List V) → false ≡ wanted size must i → Renewal A means n (sets_below size must i) (sum_of A means n grid xs) xs ys
      → Renewal A means n (sets_below size must (i + 1)) (sum_of A means n grid xs) xs ys
  no_set size must i xs ys h r = same_due A means n some (sets_below size must i) (sets_below size must (i + 1)) (sum_of A means n grid xs) xs ys r (λ x y k. below_no size must i x y h)

  -- the same of memory under another name
  pub same_after : (D : ℕ → ℕ → Bool) (value : ℕ → ℕ → M) (xs ys zs : List V) → zs ≡ ys → Renewal A means n D value xs ys → Renewal A means n D value xs zs
  same_after D value xs ys zs e r = let P : List V → Type 0 = λ ts. Renewal A means n D value xs ts in subst P (sym e) r
