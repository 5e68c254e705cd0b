-- What holds of every source that keeps one pair of facts for each two entrants. Assumes nothing.
use Rattle.std.specs.Prelude.{◌≡◌, ℕ, zero, suc, ◌<◌, ◌≤◌, Bool, true, false, cond, not, ◌&&◌, ◌||◌, ◌⊎◌, List, [], ◌∷◌, map, length, replicate, Some, None, Ok, Option, ◌==◌, ◌≢◌, nat_lt, slice_index_or, slice_set, refl}
use Rattle.std.proofs.Common.{sym, ap, ◌∙◌, subst, inl, inr, arith, get_or-set_same, get_or-set_other}
use Rattle.std.proofs.lemmas.List.{get_or-map, get_or-replicate, length-map, length-replicate, map-set}
use Rattle.std.proofs.lemmas.Bool.{and_parts, and_from, not-true, not_from_false, ltb-true, ltb-false, lt-ltb, eqb-true, eqb-false, eq-eqb, ne_eqb, both_ways, cond-true, cond-false}
use Rattle.std.proofs.lemmas.Bool.Decides.{nat_tests}
use Rattle.facts.specs.declared.refusals.Refusal.{Refusal}
use Rattle.facts.specs.declared.refusals.Refusal.TheVariants.{EntrantUnknown, EntrantsEqual, PriceAboveTop, NeitherSideFree, PairingNotCarried}
use Rattle.facts.specs.Facts.{over_top, one_free}
use Rattle.facts.specs.Fields.{legal, opponents}
use Rattle.facts.specs.Sheets.{Sheet, Lawful, SameSheet, amended}
use Rattle.facts.specs.Amendments.{first_refusal, refusal_of}
use Rattle.facts.specs.Outcomes.{decided}
use Rattle.sources.specs.Pairs.{allowed}
use Rattle.sources.specs.Held.{place_of, turned, held_sheet, uniform_sheet}

pub legal_small : (n : ℕ) → legal n ≡ true → n ≤ 16
legal_small n h = grind (arith, nat_tests)

pub met : (n a b : ℕ) → opponents n a b ≡ true → (a < n) × (b < n) × (a ≢ b)
met n a b h =
    let p = and_parts (nat_lt a n) (nat_lt b n && not (a == b)) h in
    let q = and_parts (nat_lt b n) (not (a == b)) p.1 in
    (ltb-true a n p.0, ltb-true b n q.0, eqb-false a b (not-true (a == b) q.1))

pub meets : (n a b : ℕ) → a < n → b < n → (a ≢ b) → opponents n a b ≡ true
meets n a b p q ne =
    and_from (nat_lt a n) (nat_lt b n && not (a == b)) (lt-ltb a n p) (and_from (nat_lt b n) (not (a == b)) (lt-ltb b n q) (not_from_false (a == b) (ne_eqb a b ne)))

-- whoever meets another is met by him
pub met_back : (n a b : ℕ) → opponents n a b ≡ opponents n b a
met_back n a b = grind (arith, nat_tests)

pub place_below : (a b : ℕ) → a < 16 → b < 16 → place_of a b < 256
place_below a b p q = omega arith

pub place_back : (a b : ℕ) → place_of a b ≡ place_of b a
place_back a b = omega arith

place_parts : (i j a b : ℕ) → i < 16 → j < 16 → a < 16 → b < 16 → place_of i j ≡ place_of a b → ((i ≡ a) × (j ≡ b)) ⊎ ((i ≡ b) × (j ≡ a))
place_parts i j a b p q r s e = grind arith

turned_twice : (a b : ℕ) (facts : Option ℕ × Option ℕ) → turned a b (turned a b facts) ≡ facts
turned_twice a b facts = go (nat_lt a b)
  where
    go : (t : Bool) → cond t (cond t facts (facts.1, facts.0)) ((cond t facts (facts.1, facts.0)).1, (cond t facts (facts.1, facts.0)).0) ≡ facts
    go true = refl
    go false = refl

turned_back : (a b : ℕ) (facts : Option ℕ × Option ℕ) → (a ≢ b) → (turned b a facts).0 ≡ (turned a b facts).1
turned_back a b facts ne = go (nat_lt a b) (nat_lt b a) refl refl
  where
    go : (s t : Bool) → nat_lt a b ≡ s → nat_lt b a ≡ t → (cond t facts (facts.1, facts.0)).0 ≡ (cond s facts (facts.1, facts.0)).1
    go true true p q = absurd (omega (arith, ltb-true a b p, ltb-true b a q))
    go true false p q = refl
    go false true p q = refl
    go false false p q = absurd (ne (omega (arith, ltb-false a b p, ltb-false b a q)))

module _ (carries : ℕ → ℕ → Option ℕ → Option ℕ → Bool) (n : ℕ) (held : List (Option ℕ × Option ℕ)) where
  -- both facts of a pairing, as they are held
  pub both_facts : (a b : ℕ) → opponents n a b ≡ true
      → ((held_sheet carries n held).beats a b, (held_sheet carries n held).beats b a) ≡ turned a b (slice_index_or held (place_of a b) (None, None))
  both_facts a b h =
      let t = met n a b h in
      let k : opponents n b a ≡ true = sym (met_back n a b) ∙ h in
      let one : (held_sheet carries n held).beats a b ≡ (turned a b (slice_index_or held (place_of a b) (None, None))).0 = cond-true (opponents n a b) _ None h in
      let two : (held_sheet carries n held).beats b a ≡ (turned a b (slice_index_or held (place_of a b) (None, None))).1 =
      cond-true (opponents n b a) _ None k ∙ turned_back a b (slice_index_or held (place_of b a) (None, None)) t.2 ∙ ap (λ p. (turned a b (slice_index_or held p (None, None))).1) (place_back b a) in
      ap (λ x. (x, (held_sheet carries n held).beats b a)) one ∙ ap (λ y. ((turned a b (slice_index_or held (place_of a b) (None, None))).0, y)) two

  pub never_both : (a b : ℕ) → opponents n a b ≡ false
      → ◌≡◌ {A = Option ℕ × Option ℕ} (None, None) ((held_sheet carries n held).beats a b, (held_sheet carries n held).beats b a)
  never_both a b h =
      let one : None ≡ (held_sheet carries n held).beats a b = sym (cond-false (opponents n a b) _ None h) in
      let two : None ≡ (held_sheet carries n held).beats b a = sym (cond-false (opponents n b a) _ None (sym (met_back n a b) ∙ h)) in
      ap (λ x. (x, None)) one ∙ ap (λ y. ((held_sheet carries n held).beats a b, y)) two

-- one write puts a pairing in
pub held_amended : (carries : ℕ → ℕ → Option ℕ → Option ℕ → Bool) (n : ℕ) (held : List (Option ℕ × Option ℕ)) (a b : ℕ) (facts : Option ℕ × Option ℕ) → length held ≡ 256 → n ≤ 16 → opponents n a b ≡ true
    → SameSheet (held_sheet carries n (slice_set held (place_of a b) (turned a b facts))) (amended (held_sheet carries n held) a b facts)
held_amended carries n held a b facts long small h = record { size = refl; beats = λ i j. go i j (i == a && j == b) (i == b && j == a) (opponents n i j) refl refl refl; carries = λ i j f g. refl }
  where
    t : (a < n) × (b < n) × (a ≢ b)
    t = met n a b h

    new : Sheet
    new = held_sheet carries n (slice_set held (place_of a b) (turned a b facts))

    facts_back : ((held_sheet carries n (slice_set held (place_of a b) (turned a b facts))).beats a b, (held_sheet carries n (slice_set held (place_of a b) (turned a b facts))).beats b a) ≡ facts
    facts_back =
        both_facts carries n (slice_set held (place_of a b) (turned a b facts)) a b h
        ∙ ap (turned a b) (get_or-set_same held (place_of a b) (turned a b facts) (None, None) (omega (arith, place_below a b (omega (arith, t.0)) (omega (arith, t.1)))))
        ∙ turned_twice a b facts

    apart : (i j : ℕ) → (i == a && j == b) ≡ false → (i == b && j == a) ≡ false → opponents n i j ≡ true → place_of i j ≢ place_of a b
    apart i j x y o e =
        let u = met n i j o in
        let p = place_parts i j a b (omega (arith, u.0)) (omega (arith, u.1)) (omega (arith, t.0)) (omega (arith, t.1)) e in
        elim p [
          | inl q ↦ both_ways (i == a && j == b) x (and_from (i == a) (j == b) (eq-eqb i a q.0) (eq-eqb j b q.1))
          | inr q ↦ both_ways (i == b && j == a) y (and_from (i == b) (j == a) (eq-eqb i b q.0) (eq-eqb j a q.1))
        ]

    go : (i j : ℕ) (x y o : Bool) → (i == a && j == b) ≡ x → (i == b && j == a) ≡ y → opponents n i j ≡ o
        → (held_sheet carries n (slice_set held (place_of a b) (turned a b facts))).beats i j ≡ cond x facts.0 (cond y facts.1 ((held_sheet carries n held).beats i j))
    go i j true y o p q r =
        let e = and_parts (i == a) (j == b) p in
        ap (λ k. (held_sheet carries n (slice_set held (place_of a b) (turned a b facts))).beats k j) (eqb-true i a e.0)
        ∙ ap (λ k. (held_sheet carries n (slice_set held (place_of a b) (turned a b facts))).beats a k) (eqb-true j b e.1)
        ∙ ap (λ (f : Option ℕ × Option ℕ). f.0) facts_back
    go i j false true o p q r =
        let e = and_parts (i == b) (j == a) q in
        ap (λ k. (held_sheet carries n (slice_set held (place_of a b) (turned a b facts))).beats k j) (eqb-true i b e.0)
        ∙ ap (λ k. (held_sheet carries n (slice_set held (place_of a b) (turned a b facts))).beats b k) (eqb-true j a e.1)
        ∙ ap (λ (f : Option ℕ × Option ℕ). f.1) facts_back
    go i j false false false p q r = cond-false (opponents n i j) _ None r ∙ sym (cond-false (opponents n i j) _ None r)
    go i j false false true p q r =
        ap (λ f. cond (opponents n i j) (turned i j f).0 None) (get_or-set_other held (place_of a b) (place_of i j) (turned a b facts) (None, None) (apart i j p q r))

allowed_parts : (facts : Option ℕ × Option ℕ) → allowed facts ≡ true → (one_free facts.0 facts.1 ≡ true) × (over_top facts.0 ≡ false)
allowed_parts facts h = (grind arith, grind arith)

pub allowed_turned : (a b : ℕ) (facts : Option ℕ × Option ℕ) → allowed facts ≡ true → allowed (turned a b facts) ≡ true
allowed_turned a b facts h = go (nat_lt a b)
  where
    go : (t : Bool) → allowed (cond t facts (facts.1, facts.0)) ≡ true
    go true = h
    go false = grind arith

-- where each pair that is held is allowed, the sheet is lawful
pub held_lawful : (carries : ℕ → ℕ → Option ℕ → Option ℕ → Bool) (n : ℕ) (held : List (Option ℕ × Option ℕ)) → length held ≡ 256 → legal n ≡ true
    → ((i : ℕ) → i < 256 → allowed (slice_index_or held i (None, None)) ≡ true)
    → ((a b : ℕ) (f g : Option ℕ) → carries a b f g ≡ carries b a g f)
    → Lawful (held_sheet carries n held)
held_lawful carries n held long leg good either =
    record {
      size_legal = leg;
      never_outside = λ a b h. cond-false (opponents n a b) _ None h;
      capped = λ a b. top a b (opponents n a b) refl;
      side_free = λ a b h. ap (λ (f : Option ℕ × Option ℕ). one_free f.0 f.1) (both_facts carries n held a b h) ∙ (here a b h).0;
      carried_either_way = either;
    }
  where
    fair_at : (a b : ℕ) → opponents n a b ≡ true → allowed (turned a b (slice_index_or held (place_of a b) (None, None))) ≡ true
    fair_at a b h =
        let t = met n a b h in
        let s = legal_small n leg in
        allowed_turned a b (slice_index_or held (place_of a b) (None, None)) (good (place_of a b) (place_below a b (omega (arith, t.0)) (omega (arith, t.1))))

    here : (a b : ℕ) → opponents n a b ≡ true → (one_free (turned a b (slice_index_or held (place_of a b) (None, None))).0 (turned a b (slice_index_or held (place_of a b) (None, None))).1 ≡ true) × (over_top (turned a b (slice_index_or held (place_of a b) (None, None))).0 ≡ false)
    here a b h = allowed_parts (turned a b (slice_index_or held (place_of a b) (None, None))) (fair_at a b h)

    top : (a b : ℕ) (o : Bool) → opponents n a b ≡ o → over_top ((held_sheet carries n held).beats a b) ≡ false
    top a b true h = ap over_top (cond-true (opponents n a b) _ None h) ∙ (here a b h).1
    top a b false h = ap over_top (cond-false (opponents n a b) _ None h)

-- each pair of a list that a function tells is told of something
one_of : {X : Type 0} (f : X → Option ℕ × Option ℕ) (xs : List X) (i : ℕ) → i < length xs → (x : X) × (slice_index_or (map f xs) i (None, None) ≡ f x)
one_of f [] i h = absurd (omega arith)
one_of f (x ∷ xs) zero h = (x, refl)
one_of f (x ∷ xs) (suc i) h = one_of f xs i (omega arith)

-- every pair that a function tells is allowed, so each one of a list of them is
pub each_allowed : {X : Type 0} (f : X → Option ℕ × Option ℕ) → ((x : X) → allowed (f x) ≡ true) → (xs : List X) (i : ℕ) → i < length xs → allowed (slice_index_or (map f xs) i (None, None)) ≡ true
each_allowed f h xs i p = let x = one_of f xs i p in ap allowed x.1 ∙ h x.0

no_refusal : (e : Refusal) → Some e ≢ None
no_refusal e h = cc

-- what is known of an amendment that nothing refuses
pub accepted : (n a b : ℕ) (facts : Option ℕ × Option ℕ) (carried : Bool) → first_refusal n a b facts carried ≡ None
    → (opponents n a b ≡ true) × (allowed facts ≡ true) × (carried ≡ true)
accepted n a b facts carried h =
    go (nat_lt a n) (nat_lt b n) (a == b) (over_top facts.0 || over_top facts.1) (one_free facts.0 facts.1) carried h
  where
    go : (p q e x y c : Bool) → ◌≡◌ {A = Option Refusal} (cond (not (p && q)) (Some EntrantUnknown) (cond e (Some EntrantsEqual) (cond x (Some PriceAboveTop) (cond (not y) (Some NeitherSideFree) (cond (not c) (Some PairingNotCarried) None))))) None
        → ((p && (q && not e)) ≡ true) × ((y && not x) ≡ true) × (c ≡ true)
    go true true false false true true k = (refl, refl, refl)
    go true true false false true false k = cc
    go true true false false false c k = cc
    go true true false true y c k = cc
    go true true true x y c k = cc
    go true false e x y c k = cc
    go false q e x y c k = cc

-- one write of what tells the pair
pub told_amended : {X : Type 0} (f : X → Option ℕ × Option ℕ) (carries : ℕ → ℕ → Option ℕ → Option ℕ → Bool) (n : ℕ) (xs : List X) (a b p : ℕ) (facts : Option ℕ × Option ℕ) (x : X)
    → length xs ≡ 256 → legal n ≡ true → opponents n a b ≡ true → p ≡ place_of a b → f x ≡ turned a b facts
    → SameSheet (held_sheet carries n (map f (slice_set xs p x))) (amended (held_sheet carries n (map f xs)) a b facts)
told_amended f carries n xs a b p facts x long leg h e k =
    rw (map-set f xs p x, e, k) (held_amended carries n (map f xs) a b facts (length-map xs f ∙ long) (legal_small n leg) h)

-- both facts of a pairing, as they are told
pub told_facts : {X : Type 0} (f : X → Option ℕ × Option ℕ) (carries : ℕ → ℕ → Option ℕ → Option ℕ → Bool) (n : ℕ) (xs : List X) (a b p : ℕ) (d : X)
    → length xs ≡ 256 → legal n ≡ true → opponents n a b ≡ true → p ≡ place_of a b
    → turned a b (f (slice_index_or xs p d)) ≡ ((held_sheet carries n (map f xs)).beats a b, (held_sheet carries n (map f xs)).beats b a)
told_facts f carries n xs a b p d long leg h e =
    let t = met n a b h in
    let s = legal_small n leg in
    let k = place_below a b (omega (arith, t.0)) (omega (arith, t.1)) in
    sym (both_facts carries n (map f xs) a b h ∙ ap (turned a b) (get_or-map f xs (place_of a b) d (None, None) (omega arith) ∙ ap (λ q. f (slice_index_or xs q d)) (sym e)))

pub told_lawful : {X : Type 0} (f : X → Option ℕ × Option ℕ) (carries : ℕ → ℕ → Option ℕ → Option ℕ → Bool) (n : ℕ) (xs : List X) → length xs ≡ 256 → legal n ≡ true
    → ((x : X) → allowed (f x) ≡ true)
    → ((a b : ℕ) (g h : Option ℕ) → carries a b g h ≡ carries b a h g)
    → Lawful (held_sheet carries n (map f xs))
told_lawful f carries n xs long leg good either =
    held_lawful carries n (map f xs) (length-map xs f ∙ long) leg (λ i p. each_allowed f good xs i (omega arith)) either

-- the entrants of an amendment that nothing refuses have a place
pub both_placed : (n a b : ℕ) (facts : Option ℕ × Option ℕ) (carried : Bool) → legal n ≡ true → None ≡ first_refusal n a b facts carried → (a < 16) × (b < 16)
both_placed n a b facts carried leg h =
    let t = met n a b (accepted n a b facts carried (sym h)).0 in
    let s = legal_small n leg in
    (omega (arith, t.0), omega (arith, t.1))

-- what an accepted amendment owes: its answer, the pairing put in, and nothing where it would have been refused
pub settles : {X P : Type 0} (f : X → Option ℕ × Option ℕ) (carries : ℕ → ℕ → Option ℕ → Option ℕ → Bool) (n : ℕ) (xs : List X) (a b p : ℕ) (facts : Option ℕ × Option ℕ) (x : X)
    → length xs ≡ 256 → legal n ≡ true → refusal_of (held_sheet carries n (map f xs)) a b facts ≡ None → p ≡ place_of a b → f x ≡ turned a b facts
    → (Ok tt ≡ decided (refusal_of (held_sheet carries n (map f xs)) a b facts))
    × SameSheet (held_sheet carries n (map f (slice_set xs p x))) (amended (held_sheet carries n (map f xs)) a b facts)
    × ((e : Refusal) → refusal_of (held_sheet carries n (map f xs)) a b facts ≡ Some e → P)
settles f carries n xs a b p facts x long leg none e k = (
  ap decided (sym none),
  told_amended f carries n xs a b p facts x long leg (accepted n a b facts (carries a b facts.0 facts.1) none).0 e k,
  λ r q. absurd (no_refusal r (sym q ∙ none)),
)

-- a source that tells the same of every two entrants
pub told_alike : {X : Type 0} (f : X → Option ℕ × Option ℕ) (carries : ℕ → ℕ → Option ℕ → Option ℕ → Bool) (n : ℕ) (x : X) (facts : Option ℕ × Option ℕ) → f x ≡ facts → legal n ≡ true
    → SameSheet (held_sheet carries n (map f (replicate 256 x))) (uniform_sheet carries n facts)
told_alike f carries n x facts is leg = record { size = refl; beats = λ a b. go a b (opponents n a b) refl; carries = λ a b g h. refl }
  where
    go : (a b : ℕ) (o : Bool) → opponents n a b ≡ o
        → cond (opponents n a b) (turned a b (slice_index_or (map f (replicate 256 x)) (place_of a b) (None, None))).0 None ≡ cond (opponents n a b) (turned a b facts).0 None
    go a b false h = cond-false (opponents n a b) _ None h ∙ sym (cond-false (opponents n a b) _ None h)
    go a b true h =
        let t = met n a b h in
        let s = legal_small n leg in
        let k = place_below a b (omega (arith, t.0)) (omega (arith, t.1)) in
        ap (λ g. cond (opponents n a b) (turned a b g).0 None)
        (get_or-map f (replicate 256 x) (place_of a b) x (None, None) (omega (arith, length-replicate 256 x)) ∙ ap f (get_or-replicate 256 (place_of a b) x x k) ∙ is)

-- what holds of each pair that a source can tell holds of each pairing of its sheet
pub told_each : {X : Type 0} (f : X → Option ℕ × Option ℕ) (carries : ℕ → ℕ → Option ℕ → Option ℕ → Bool) (n : ℕ) (xs : List X) (P : Option ℕ × Option ℕ → Type 0) (a b : ℕ)
    → length xs ≡ 256 → legal n ≡ true → opponents n a b ≡ true → ((x : X) → P (turned a b (f x)))
    → P ((held_sheet carries n (map f xs)).beats a b, (held_sheet carries n (map f xs)).beats b a)
told_each f carries n xs P a b long leg h each =
    let t = met n a b h in
    let s = legal_small n leg in
    let k = place_below a b (omega (arith, t.0)) (omega (arith, t.1)) in
    let x = one_of f xs (place_of a b) (omega arith) in
    subst P (sym (both_facts carries n (map f xs) a b h ∙ ap (turned a b) x.1)) (each x.0)
