-- Words meet no refusal exactly where they are a record, and a record tells its bracket. Assumes nothing.
use Rattle.std.proofs.Common.{◌≡◌, ℕ, ◌-◌, ◌^◌, ◌<◌, ◌≤◌, true, eqb, ◌⊎◌, List, [], ◌++◌, length, Some, None, sym, refl, ap, ◌∙◌, subst, ap₂, inl, inr, append-nil, arith, pow_mono}
use lib.Bits.{and_zero_l}
use lib.Count.{count_trailing_zeros, ones-ones}
use lib.Pow.{ones_lt}
use Rattle.std.proofs.lemmas.List.{drop_all}
use Rattle.std.proofs.lemmas.Bool.{eqb-true, eq-eqb, cond-true}
use Rattle.std.proofs.lemmas.Bool.Decides.{nat_tests}
use Rattle.facts.specs.declared.refusals.Refusal.TheVariants.{RecordLengthWrong, MatchImpossible}
use Rattle.facts.specs.Fields.{legal}
use Rattle.figures.specs.Brackets.{Filled, On, rounds}
use Rattle.figures.proofs.Rounds.{rounds_pow}
use Rattle.records.specs.Records.{rounds_of, record_words, word_count}
use Rattle.records.specs.Places.{places, first_of, misplaced}
use Rattle.records.specs.Matches.{agrees, behind}
use Rattle.records.specs.Refusing.{length_refusal, place_refusal, matches_refusal, record_refusal}
use Rattle.records.specs.Verdicts.{RecordOf}
use Rattle.records.specs.Theorems.{RefusedExactly, ToldApart}
use Rattle.records.proofs.Unions.{pow_same, all_in}
use Rattle.records.proofs.Standing.{known}
use Rattle.records.proofs.Fields.{passed, kept}
use Rattle.records.proofs.Parsing.{parsed}
use Rattle.records.proofs.Telling.{told, passes, length_record, tells}

-- a field's size, by its rounds
pub record Sized (n : ℕ) : Type 0 where
  pub power : n ≡ 2 ^ rounds n
  pub some : 1 ≤ rounds n
  pub few : rounds n ≤ 4
  pub most : n ≤ 16
  pub zeros : count_trailing_zeros 64 n ≡ rounds n

legal_cases : (n : ℕ) → legal n ≡ true → (n ≡ 2) ⊎ ((n ≡ 4) ⊎ ((n ≡ 8) ⊎ (n ≡ 16)))
legal_cases n h = grind (arith, nat_tests)

pub sized : (n : ℕ) → legal n ≡ true → Sized n
unfolding count_trailing_zeros
sized n h = go (legal_cases n h)
  where
    of : (k : ℕ) → 1 ≤ k → k ≤ 4 → count_trailing_zeros 64 (2 ^ k) ≡ k → n ≡ 2 ^ k → Sized n
    of k some few zeros e =
        let r : rounds n ≡ k = ap rounds e ∙ rounds_pow k in
        record {
          power = e ∙ ap (λ (j : ℕ). 2 ^ j) (sym r);
          some = omega arith;
          few = omega arith;
          most = omega (arith, pow_mono {i = k} {j = 4} few);
          zeros = ap (count_trailing_zeros 64) e ∙ zeros ∙ sym r;
        }

    go : (n ≡ 2) ⊎ ((n ≡ 4) ⊎ ((n ≡ 8) ⊎ (n ≡ 16))) → Sized n
    go (inl e) = of 1 (omega arith) (omega arith) refl e
    go (inr (inl e)) = of 2 (omega arith) (omega arith) refl e
    go (inr (inr (inl e))) = of 3 (omega arith) (omega arith) refl e
    go (inr (inr (inr e))) = of 4 (omega arith) (omega arith) refl e

-- ---- no refusal: a record

module _ (n : ℕ) (z : Sized n) (ws : List ℕ) where
  pub recorded : record_refusal n ws ≡ None → (t : Filled) × RecordOf n ws t
  recorded h =
      let p = passed (length_refusal n ws) (first_of (place_refusal n ws) (matches_refusal n ws)) h in
      let q = passed (place_refusal n ws) (matches_refusal n ws) p.1 in
      let k : ℕ = rounds n in
      let power = z.power in
      let len : length ws ≡ word_count n = eqb-true (length ws) (word_count n) (kept (eqb (length ws) (word_count n)) None RecordLengthWrong p.0).0 in
      let fine : agrees k ws ≡ true = (kept (agrees k ws) None MatchImpossible q.1).0 in
      let count : word_count n ≡ word_count (2 ^ k) = ap (λ (m : ℕ). word_count m) power in
      let x = parsed k n 0 [] ws (omega arith) (ap (λ js. misplaced n 0 js ws) (append-nil (places k)) ∙ q.0) fine in
      let t = x.told in
      let many = (known t x.whole x.on).sized ∙ ap (λ (j : ℕ). 2 ^ j) x.levels ∙ sym power in
      let all : x.whole ≡ 2 ^ n - 1 = all_in n x.whole x.below many in
      let P : ℕ → Type 0 = λ s. On s t in
      let last : behind k ws ≡ [] = drop_all (word_count (2 ^ k)) ws (omega arith) in
      (t, (subst P all x.on, x.is ∙ ap (λ zs. record_words t ++ zs) last ∙ append-nil (record_words t)))

-- ---- a record: no refusal

module _ (n : ℕ) (z : Sized n) (t : Filled) (on : On (2 ^ n - 1) t) where
  pub level : rounds_of t ≡ rounds n
  level = pow_same (rounds_of t) (rounds n) (sym (known t (2 ^ n - 1) on).sized ∙ ones-ones n ∙ z.power)

  pub low_rounds : rounds_of t < 16
  low_rounds = omega (arith, level, z.few)

  pub within : 2 ^ n - 1 < 2 ^ 16
  within = omega (arith, ones_lt n, pow_mono {i = n} {j = 16} z.most)

  pub unrefused : record_refusal n (record_words t) ≡ None
  unrefused =
      let ws : List ℕ = record_words t in
      let k : ℕ = rounds n in
      let len : length ws ≡ word_count n = length_record t (2 ^ n - 1) on ∙ ap (λ (j : ℕ). word_count (2 ^ j)) level ∙ ap (λ (m : ℕ). word_count m) (sym z.power) in
      let first : length_refusal n ws ≡ None = cond-true (eqb (length ws) (word_count n)) None (Some RecordLengthWrong) (eq-eqb (length ws) (word_count n) len) in
      let placed : place_refusal n ws ≡ None =
      ap₂ (misplaced n 0) (ap places (sym level) ∙ sym (append-nil (places (rounds_of t)))) (sym (append-nil ws))
      ∙ passes t (2 ^ n - 1) n 0 [] [] on (ones_lt n) z.most within low_rounds (and_zero_l (2 ^ n - 1)) in
      let fine : agrees k ws ≡ true =
      ap₂ agrees (sym level) (sym (append-nil ws)) ∙ (told t (2 ^ n - 1) [] on within low_rounds).agree in
      let last : matches_refusal n ws ≡ None = cond-true (agrees k ws) None (Some MatchImpossible) fine in
      ap₂ first_of first (ap₂ first_of placed last)

pub refused_exactly : RefusedExactly
refused_exactly n ws h =
    let z = sized n h in
    (recorded n z ws, λ x. ap (record_refusal n) x.1.1 ∙ unrefused n z x.0 x.1.0)

pub told_apart : ToldApart
told_apart n t u h p q e =
    let z = sized n h in
    (tells t u (2 ^ n - 1) (2 ^ n - 1) [] [] p q (within n z t p) (within n z t p) (low_rounds n z t p) (level n z t p ∙ sym (level n z u q))
    (append-nil (record_words t) ∙ e ∙ sym (append-nil (record_words u)))).0
