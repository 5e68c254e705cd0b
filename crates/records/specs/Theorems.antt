-- What is proved of records.
use Rattle.std.specs.Prelude.{◌≡◌, ℕ, ◌-◌, ◌^◌, true, ◌↔◌, List, None}
use Rattle.facts.specs.Fields.{legal}
use Rattle.figures.specs.Brackets.{Filled, On}
use Rattle.records.specs.Records.{record_words}
use Rattle.records.specs.Refusing.{record_refusal}
use Rattle.records.specs.Verdicts.{RecordOf}

-- Words meet no refusal exactly where they are the record of some filled bracket on the whole field.
abbrev pub RefusedExactly : Type 0
RefusedExactly = (n : ℕ) (ws : List ℕ) → legal n ≡ true → (record_refusal n ws ≡ None) ↔ ((t : Filled) × RecordOf n ws t)

-- Two filled brackets on the whole field that have the same record are the same.
abbrev pub ToldApart : Type 0
ToldApart =
    (n : ℕ) (t u : Filled) → legal n ≡ true → On (2 ^ n - 1) t → On (2 ^ n - 1) u → record_words t ≡ record_words u → t ≡ u
