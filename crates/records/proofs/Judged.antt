-- The verdict on words. Assumes nothing.
use Rattle.std.proofs.Common.{◌≡◌, ℕ, ◌-◌, ◌^◌, true, List, length, Some, None, Ok, Err, Result, sym, ap, ◌∙◌, ap₂, append-nil, arith}
use Rattle.std.proofs.lemmas.Bool.Decides.{nat_tests}
use Rattle.facts.specs.declared.refusals.Refusal.{Refusal}
use Rattle.facts.specs.declared.refusals.Refusal.TheVariants.{RecordLengthWrong}
use Rattle.facts.specs.Fields.{legal}
use Rattle.algebra.specs.Semirings.{Semiring, LawfulSemiring}
use Rattle.figures.specs.Brackets.{Filled, champion, rounds}
use Rattle.figures.specs.Fields.{Field}
use Rattle.figures.specs.Figures.{worth}
use Rattle.records.specs.declared.verdict.Verdict.{Verdict}
use Rattle.records.specs.Records.{record_words, word_count}
use Rattle.records.specs.Places.{places, first_of}
use Rattle.records.specs.Matches.{champion_in}
use Rattle.records.specs.Readings.{wins_in}
use Rattle.records.specs.Refusing.{place_refusal, matches_refusal, record_refusal}
use Rattle.records.specs.Verdicts.{RecordOf, AcceptsRecords, RefusesByTheFirst}
use Rattle.records.proofs.Deciding.{sized, level, low_rounds, within, refused_exactly}
use Rattle.records.proofs.Telling.{told}
use Rattle.records.proofs.Weighing.{worth_is}

-- ---- which refusal is the first

module _ (n : ℕ) (ws : List ℕ) where
  pub wrong_length : (length ws ≡ word_count n → ⊥) → record_refusal n ws ≡ Some RecordLengthWrong
  wrong_length h = grind (arith, nat_tests)

  pub right_length : length ws ≡ word_count n → record_refusal n ws ≡ first_of (place_refusal n ws) (matches_refusal n ws)
  right_length h = grind (arith, nat_tests)

-- ---- the verdict

module _ {V M : Type 0} (means : V → M) (A : Semiring M) (law : LawfulSemiring A) (f : Field) (fits : legal f.size ≡ true) (ws : List ℕ) where
  pub none_accepted : (e : Refusal) → record_refusal f.size ws ≡ Some e → AcceptsRecords means A f ws (Err e)
  none_accepted e h c x = (
    λ p. cc p.1,
    λ y. cc ((refused_exactly f.size ws fits).1 (y.0, y.1)),
  )

  -- the champion and the worth of the bracket that the words record
  champion_is : (t : Filled) → RecordOf f.size ws t → champion t ≡ champion_in ws
  champion_is t (on, is) =
      let z = sized f.size fits in
      sym (told t (2 ^ f.size - 1) _ on (within f.size z t on) (low_rounds f.size z t on)).won ∙ ap champion_in (append-nil (record_words t) ∙ sym is)

  worth_of : (t : Filled) → RecordOf f.size ws t → worth A f t ≡ wins_in A f (places (rounds f.size)) ws
  worth_of t (on, is) =
      let z = sized f.size fits in
      worth_is A law f t (2 ^ f.size - 1) on (within f.size z t on) (low_rounds f.size z t on)
      ∙ ap₂ (wins_in A f) (ap places (level f.size z t on)) (sym is)

  pub accepted : (c : ℕ) (v : V) → record_refusal f.size ws ≡ None → c ≡ champion_in ws → means v ≡ wins_in A f (places (rounds f.size)) ws
      → AcceptsRecords means A f ws (Ok (record { champion = c; weight = v }))
  accepted c v none wins weighs d x =
      let t = (refused_exactly f.size ws fits).0 none in (
        (λ p.
            let both : ◌≡◌ {A = Verdict V} (record { champion = c; weight = v }) (record { champion = d; weight = p.0 }) = cc p.1 in
            let c-is : c ≡ d = ap (λ (r : Verdict V). r.champion) both in
            let v-is : v ≡ p.0 = ap (λ (r : Verdict V). r.weight) both in
            (t.0, t.1, champion_is t.0 t.1 ∙ sym wins ∙ c-is, worth_of t.0 t.1 ∙ sym weighs ∙ ap means v-is ∙ p.2)),
        λ p. (
          v,
          ap {B = Result (Verdict V) Refusal} (λ (j : ℕ). Ok (record { champion = j; weight = v })) (wins ∙ sym (champion_is p.0 p.1) ∙ p.2),
          weighs ∙ sym (worth_of p.0 p.1) ∙ p.3,
        ),
      )

pub refused_by : {V : Type 0} (n : ℕ) (ws : List ℕ) (e : Refusal) → record_refusal n ws ≡ Some e → RefusesByTheFirst {V = V} n ws (Err e)
refused_by n ws e h u = (λ p. cc, λ p. cc)
