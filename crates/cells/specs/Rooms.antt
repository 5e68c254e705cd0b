-- How much memory a table needs, and when a call refuses a memory or the refresh of a level.
use Rattle.std.specs.Prelude.{ℕ, ◌*◌, ◌^◌, Bool, cond, not, [], ◌∷◌, Ok, Err, Option, Result, nat_lt}
use Rattle.facts.specs.declared.refusals.Refusal.{Refusal}
use Rattle.facts.specs.declared.refusals.Refusal.TheVariants.{SizeNotAllowed, MemoryTooShort, LevelsAllFilled}
use Rattle.facts.specs.Refusals.{first_of}
use Rattle.facts.specs.Fields.{legal}

-- how many cells n entrants need: one for each set and each entrant
abbrev pub needed : ℕ → ℕ
needed n = 2 ^ n * n

-- the same as an answer; no table has another size
abbrev pub needed_by : ℕ → Result ℕ Refusal
needed_by n = cond (legal n) (Ok (needed n)) (Err SizeNotAllowed)

-- a memory of so many values is too short for n entrants
abbrev pub too_short : ℕ → ℕ → Bool × Refusal
too_short n count = (nat_lt count (needed n), MemoryTooShort)

-- n entrants play no more rounds than so many
abbrev pub all_filled : ℕ → ℕ → Bool × Refusal
all_filled n level = (not (nat_lt (2 ^ level) n), LevelsAllFilled)

-- of whatever wants no more than the cells
abbrev pub room_refusal : ℕ → ℕ → Option Refusal
room_refusal n count = first_of (too_short n count ∷ [])

abbrev pub refresh_refusal : ℕ → ℕ → ℕ → Option Refusal
refresh_refusal n count level = first_of (too_short n count ∷ all_filled n level ∷ [])
