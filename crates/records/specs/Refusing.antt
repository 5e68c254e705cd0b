-- Why words are refused as a record.
use Rattle.std.specs.Prelude.{ℕ, cond, List, length, Some, None, Option, ◌==◌}
use Rattle.facts.specs.declared.refusals.Refusal.{Refusal}
use Rattle.facts.specs.declared.refusals.Refusal.TheVariants.{RecordLengthWrong, MatchImpossible}
use Rattle.figures.specs.Brackets.{rounds}
use Rattle.records.specs.Records.{word_count}
use Rattle.records.specs.Places.{places, first_of, misplaced}
use Rattle.records.specs.Matches.{agrees}

-- they are not as many as the record of n entrants has
abbrev pub length_refusal : ℕ → List ℕ → Option Refusal
length_refusal n ws = cond (length ws == word_count n) None (Some RecordLengthWrong)

-- the first word from the front that its place does not take
abbrev pub place_refusal : ℕ → List ℕ → Option Refusal
place_refusal n ws = misplaced n 0 (places (rounds n)) ws

-- some match does not agree with what is beneath it
abbrev pub matches_refusal : ℕ → List ℕ → Option Refusal
matches_refusal n ws = cond (agrees (rounds n) ws) None (Some MatchImpossible)

-- the first refusal of words as the record of n entrants: of their number, then of each word at its place, then of the
-- matches
abbrev pub record_refusal : ℕ → List ℕ → Option Refusal
record_refusal n ws = first_of (length_refusal n ws) (first_of (place_refusal n ws) (matches_refusal n ws))
