-- The wins of a record are worth what its bracket is worth. Assumes nothing.
use Rattle.std.proofs.Common.{◌≡◌, ℕ, ◌^◌, ◌<◌, List, [], ◌++◌, sym, ap, ◌∙◌, ap₂, append_assoc, append-nil, arith}
use Rattle.algebra.specs.Semirings.{Semiring, LawfulSemiring}
use Rattle.figures.specs.Brackets.{Filled, sole, match, pick, champion, On}
use Rattle.figures.specs.Fields.{Field}
use Rattle.figures.specs.Figures.{worth}
use Rattle.records.specs.Records.{rounds_of, record_words}
use Rattle.records.specs.Places.{places}
use Rattle.records.specs.Readings.{wins_in}
use Rattle.records.proofs.Standing.{halves_known}
use Rattle.records.proofs.Telling.{small}

module _ {M : Type 0} (A : Semiring M) (law : LawfulSemiring A) (f : Field) where
  exchange : (x y z q : M) → A.times z (A.times x (A.times y q)) ≡ A.times (A.times (A.times x y) z) q
  exchange x y z q =
      ap (A.times z) (sym (law.times_assoc x y q)) ∙ sym (law.times_assoc z (A.times x y) q)
      ∙ ap (λ v. A.times v q) (law.times_comm z (A.times x y))

  pub wins_are : (t : Filled) (s : ℕ) (ks ws : List ℕ) → On s t → s < 2 ^ 16 → rounds_of t < 16
      → wins_in A f (places (rounds_of t) ++ ks) (record_words t ++ ws) ≡ A.times (worth A f t) (wins_in A f ks ws)
  unfolding champion record_words worth
  wins_are (sole e) s ks ws h lt k = sym (law.times_one (wins_in A f ks ws))
  wins_are (match side l r) s ks ws h lt k =
      let z = h.halved in
      let sum = z.sum in
      let two = halves_known side l r s h in
      let sm = small side l r s h lt k in
      ap₂ A.times
      (ap₂ (λ a b. A.weight (f.beats a b)) sm.word.winner sm.word.loser)
      (ap₂ (wins_in A f) (append_assoc (places (rounds_of l)) (places (rounds_of l)) ks) (append_assoc (record_words l) (record_words r) ws)
      ∙ wins_are l z.a (places (rounds_of l) ++ ks) (record_words r ++ ws) z.on_first (omega arith) (omega arith)
      ∙ ap (A.times (worth A f l))
      (ap (λ j. wins_in A f (places j ++ ks) (record_words r ++ ws)) two.level
      ∙ wins_are r z.b ks ws z.on_second (omega arith) (omega (arith, two.level))))
      ∙ exchange (worth A f l) (worth A f r) (A.weight (f.beats (pick side (champion l) (champion r)) (pick side (champion r) (champion l)))) (wins_in A f ks ws)

  pub worth_is : (t : Filled) (s : ℕ) → On s t → s < 2 ^ 16 → rounds_of t < 16 → worth A f t ≡ wins_in A f (places (rounds_of t)) (record_words t)
  worth_is t s h lt k =
      sym (law.times_comm (worth A f t) A.one ∙ law.times_one (worth A f t))
      ∙ sym (wins_are t s [] [] h lt k) ∙ ap₂ (wins_in A f) (append-nil (places (rounds_of t))) (append-nil (record_words t))
