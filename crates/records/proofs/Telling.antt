-- The record of a bracket passes its places, its matches agree, and it tells the bracket. Assumes nothing.
use Rattle.std.proofs.Common.{◌≡◌, ℕ, suc, ◌+◌, ◌^◌, ◌<◌, ◌≤◌, true, ◌&&◌, ◌⊎◌, List, ◌∷◌, ◌++◌, length, sym, refl, ap, ◌∙◌, subst, ap₂, inl, inr, append_assoc, add_assoc, arith, length-append}
use lib.Bits.{bit_or, or_disjoint}
use Rattle.std.proofs.lemmas.Bool.{and_from}
use Rattle.figures.specs.Sets.{Apart}
use Rattle.figures.specs.Brackets.{Side, first, second, Filled, sole, match, pick, champion, On}
use Rattle.records.specs.Words.{named, match_in}
use Rattle.records.specs.Records.{rounds_of, record_words, word_count}
use Rattle.records.specs.Places.{places, first_of, misplaced}
use Rattle.records.specs.Matches.{champion_in, behind, lowest_in, fair_over, agrees}
use Rattle.records.proofs.Unions.{apart_comm, apart_split, apart_join, apart_one}
use Rattle.records.proofs.Standing.{opening, halves_known, champion_below}
use Rattle.records.proofs.Behind.{count_more, behind_more}
use Rattle.records.proofs.Parsing.{top}
use Rattle.records.proofs.Fields.{Written, written, leaf_passes, match_passes, Names, fair_from}

-- what is known of a match between entrants below 16
pub record Small (side : Side) (l r : Filled) : Type 0 where
  pub left : champion l < 16
  pub right : champion r < 16
  pub word : Written (suc (rounds_of l)) (pick side (champion l) (champion r)) (pick side (champion r) (champion l))

pub small : (side : Side) (l r : Filled) (s : ℕ) → On s (match side l r) → s < 2 ^ 16 → suc (rounds_of l) < 16 → Small side l r
unfolding pick
small side l r s h lt k =
    let z = h.halved in
    let sum = z.sum in
    let a = champion_below 16 z.a l z.on_first (omega arith) in
    let b = champion_below 16 z.b r z.on_second (omega arith) in
    record { left = a; right = b; word = go side a b }
  where
    go : (u : Side) → champion l < 16 → champion r < 16 → Written (suc (rounds_of l)) (pick u (champion l) (champion r)) (pick u (champion r) (champion l))
    go first a b = written (suc (rounds_of l)) (champion l) (champion r) k a b
    go second a b = written (suc (rounds_of l)) (champion r) (champion l) k b a

-- ---- the matches agree

-- the words begin with a part of k rounds that tells of t, and the rest stands behind it
pub record Told (k : ℕ) (ws : List ℕ) (t : Filled) (rest : List ℕ) : Type 0 where
  pub agree : agrees k ws ≡ true
  pub low : lowest_in k ws ≡ opening t
  pub won : champion_in ws ≡ champion t
  pub last : behind k ws ≡ rest

pub told : (t : Filled) (s : ℕ) (ws : List ℕ) → On s t → s < 2 ^ 16 → rounds_of t < 16 → Told (rounds_of t) (record_words t ++ ws) t ws
unfolding champion pick record_words
told (sole e) s ws h lt k =
    let x : e < 16 = champion_below 16 s (sole e) h lt in
    record { agree = refl; low = omega arith; won = omega arith; last = refl }
told (match side l r) s ws h lt k =
    let z = h.halved in
    let sum = z.sum in
    let j : ℕ = rounds_of l in
    let two = halves_known side l r s h in
    let sm = small side l r s h lt k in
    let w : ℕ = top side l r in
    let us : List ℕ = record_words l ++ (record_words r ++ ws) in
    let x = told l z.a (record_words r ++ ws) z.on_first (omega arith) (omega arith) in
    let y = told r z.b ws z.on_second (omega arith) (omega (arith, two.level)) in
    let L : ℕ → Type 0 = λ i. Told i (record_words r ++ ws) r ws in
    let B : List ℕ → Type 0 = λ vs. Told j vs r ws in
    let y' = subst B (sym x.last) (subst L (sym two.level) y) in
    let W : List ℕ → Type 0 = λ vs. Told (suc j) (w ∷ vs) (match side l r) ws in
    let opens = two.opens in
    subst W (sym (append_assoc (record_words l) (record_words r) ws))
    (record {
      agree =
          and_from (fair_over j (match_in w) us) (agrees j us && agrees j (behind j us))
          (fair_from (suc j) w (champion_in us) (champion_in (behind j us)) (lowest_in j us) (lowest_in j (behind j us)) sm.word.round (omega (arith, x.low, y'.low))
          (names side sm.word x.won y'.won))
          (and_from (agrees j us) (agrees j (behind j us)) x.agree y'.agree);
      low = omega (arith, x.low, y'.low);
      won = sm.word.winner;
      last = behind_more j w us ∙ y'.last;
    })
  where
    names : (u : Side) → Written (suc (rounds_of l)) (pick u (champion l) (champion r)) (pick u (champion r) (champion l))
        → {a b : ℕ} → a ≡ champion l → b ≡ champion r → Names (top u l r) a b ⊎ Names (top u l r) b a
    names first f p q = inl (f.winner ∙ sym p, f.loser ∙ sym q)
    names second f p q = inr (f.winner ∙ sym q, f.loser ∙ sym p)

-- ---- the words pass their places

pub passes : (t : Filled) (s n seen : ℕ) (ks ws : List ℕ) → On s t → s < 2 ^ n → n ≤ 16 → s < 2 ^ 16 → rounds_of t < 16 → Apart seen s
    → misplaced n seen (places (rounds_of t) ++ ks) (record_words t ++ ws) ≡ misplaced n (seen + s) ks ws
unfolding champion record_words
passes (sole e) s n seen ks ws h l m lt k a =
    let x : e < n = champion_below n s (sole e) h l in
    let A : ℕ → Type 0 = λ v. Apart seen v in
    let b : Apart seen (2 ^ e) = subst A h a in
    ap (λ o. first_of o (misplaced n (bit_or seen (2 ^ e)) ks ws)) (leaf_passes n seen e (omega arith) x (apart_one seen e b))
    ∙ ap (λ v. misplaced n v ks ws) (or_disjoint seen (2 ^ e) b ∙ ap (λ (v : ℕ). seen + v) (sym h))
passes (match side l r) s n seen ks ws h lt m l16 k new =
    let z = h.halved in
    let a = z.a in
    let b = z.b in
    let sum : a + b ≡ s = z.sum in
    let two = halves_known side l r s h in
    let sm = small side l r s h l16 k in
    let A : ℕ → Type 0 = λ v. Apart v seen in
    let sp = apart_split a b seen z.apart (subst A (sym sum) (apart_comm seen s new)) in
    let sa = apart_comm a seen sp.0 in
    ap (λ o. first_of o (misplaced n seen ((places (rounds_of l) ++ places (rounds_of l)) ++ ks) ((record_words l ++ record_words r) ++ ws))) (match_passes (top side l r) sm.word.shape)
    ∙ ap₂ (misplaced n seen) (append_assoc (places (rounds_of l)) (places (rounds_of l)) ks) (append_assoc (record_words l) (record_words r) ws)
    ∙ passes l a n seen (places (rounds_of l) ++ ks) (record_words r ++ ws) z.on_first (omega arith) m (omega arith) (omega arith) sa
    ∙ ap (λ j. misplaced n (seen + a) (places j ++ ks) (record_words r ++ ws)) two.level
    ∙ passes r b n (seen + a) ks ws z.on_second (omega arith) m (omega arith) (omega (arith, two.level)) (apart_join seen a b sa (apart_comm b seen sp.1) z.apart)
    ∙ ap (λ v. misplaced n v ks ws) (add_assoc seen a b ∙ ap (λ (v : ℕ). seen + v) sum)

pub length_record : (t : Filled) (s : ℕ) → On s t → length (record_words t) ≡ word_count (2 ^ rounds_of t)
unfolding record_words
length_record (sole e) s h = refl
length_record (match side l r) s h =
    let z = h.halved in
    let x = length_record l z.a z.on_first in
    let y = length_record r z.b z.on_second ∙ ap (λ (j : ℕ). word_count (2 ^ j)) (sym (halves_known side l r s h).level) in
    omega (arith, length-append (record_words l) (record_words r), count_more (rounds_of l))

-- ---- the words tell the bracket

same_side : (u v : Side) (x y : ℕ) → (x ≡ y → ⊥) → pick u x y ≡ pick v x y → u ≡ v
unfolding pick
same_side first first x y d e = refl
same_side first second x y d e = absurd (d e)
same_side second first x y d e = absurd (d (sym e))
same_side second second x y d e = refl

pub tells : (t u : Filled) (s z : ℕ) (ws vs : List ℕ) → On s t → On z u → s < 2 ^ 16 → z < 2 ^ 16 → rounds_of t < 16 → rounds_of t ≡ rounds_of u
    → record_words t ++ ws ≡ record_words u ++ vs → (t ≡ u) × (ws ≡ vs)
unfolding record_words
tells (sole e) (sole d) s z ws vs h i ls lz k same eq = let q : e ≡ d = cc in (ap sole q, cc)
tells (sole e) (match side l r) s z ws vs h i ls lz k same eq = absurd (omega (arith, same))
tells (match side l r) (sole e) s z ws vs h i ls lz k same eq = absurd (omega (arith, same))
tells (match side l r) (match edge m q) s z ws vs h i ls lz k same eq =
    let a = h.halved in
    let b = i.halved in
    let sa = a.sum in
    let sb = b.sum in
    let level : rounds_of l ≡ rounds_of m = omega (arith, same) in
    let tw = halves_known side l r s h in
    let tv = halves_known edge m q z i in
    let heads : top side l r ≡ top edge m q = cc in
    let tails : (record_words l ++ record_words r) ++ ws ≡ (record_words m ++ record_words q) ++ vs = cc in
    let x = tells l m a.a b.a (record_words r ++ ws) (record_words q ++ vs) a.on_first b.on_first (omega arith) (omega arith) (omega arith) level
    (sym (append_assoc (record_words l) (record_words r) ws) ∙ tails ∙ append_assoc (record_words m) (record_words q) vs) in
    let y = tells r q a.b b.b ws vs a.on_second b.on_second (omega arith) (omega arith) (omega (arith, tw.level)) (sym tw.level ∙ level ∙ tv.level) x.1 in
    let won : pick side (champion l) (champion r) ≡ pick edge (champion l) (champion r) =
    sym (small side l r s h ls k).word.winner ∙ ap named heads ∙ (small edge m q z i lz (omega (arith, same))).word.winner
    ∙ ap₂ (λ c d. pick edge c d) (ap champion (sym x.0)) (ap champion (sym y.0)) in
    let edges = same_side side edge (champion l) (champion r) tw.differ won in
    (ap (λ e. match e l r) edges ∙ ap₂ (λ c d. match edge c d) x.0 y.0, y.1)
