-- What is accepted as a record.
use Rattle.std.specs.Prelude.{◌≡◌, ℕ, ◌-◌, ◌^◌, ◌↔◌, List, Some, Ok, Err, Result}
use Rattle.facts.specs.declared.refusals.Refusal.{Refusal}
use Rattle.algebra.specs.Semirings.{Semiring}
use Rattle.figures.specs.Brackets.{Filled, On, champion}
use Rattle.figures.specs.Fields.{Field}
use Rattle.figures.specs.Figures.{worth}
use Rattle.records.specs.declared.verdict.Verdict.{Verdict}
use Rattle.records.specs.Records.{record_words}
use Rattle.records.specs.Refusing.{record_refusal}

-- the words are the record of t, a filled bracket on all n entrants
abbrev pub RecordOf : ℕ → List ℕ → Filled → Type 0
RecordOf n ws t = On (2 ^ n - 1) t × (ws ≡ record_words t)

-- accepted with champion c and a weight that means x
abbrev pub AcceptedWith : {V M : Type 0} → (V → M) → Result (Verdict V) Refusal → ℕ → M → Type 0
AcceptedWith {V} means r c x = (v : V) × (r ≡ Ok (record { champion = c; weight = v })) × (means v ≡ x)

-- Words are accepted with a champion and a weight exactly where they are the record of a filled bracket on the whole field
-- that has this champion and is worth this.
abbrev pub AcceptsRecords : {V M : Type 0} → (V → M) → Semiring M → Field → List ℕ → Result (Verdict V) Refusal → Type 0
AcceptsRecords {V} {M} means A f ws r =
    (c : ℕ) (x : M) → AcceptedWith means r c x
    ↔ ((t : Filled) × RecordOf f.size ws t × (champion t ≡ c) × (worth A f t ≡ x))

-- They are refused exactly by the first refusal.
abbrev pub RefusesByTheFirst : {V : Type 0} → ℕ → List ℕ → Result (Verdict V) Refusal → Type 0
RefusesByTheFirst n ws r = (e : Refusal) → (r ≡ Err e) ↔ (record_refusal n ws ≡ Some e)
