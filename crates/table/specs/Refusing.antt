-- When a call on a table is refused. A stage is of n entrants, a memory has so many values, and a source is of so many
-- entrants; each refusal is the first of its list that applies.
use Rattle.std.specs.Prelude.{ℕ, ◌^◌, not, [], ◌∷◌, Option, ◌==◌, nat_lt}
use Rattle.facts.specs.declared.refusals.Refusal.{Refusal}
use Rattle.facts.specs.declared.refusals.Refusal.TheVariants.{SizeNotAllowed, SizesDiffer, EntrantUnknown, NobodyCanWin, LevelMissing}
use Rattle.facts.specs.Refusals.{first_of}
use Rattle.facts.specs.Fields.{legal}
use Rattle.cells.specs.Rooms.{too_short, all_filled}

abbrev pub open_refusal : ℕ → ℕ → Option Refusal
open_refusal n count = first_of ((not (legal n), SizeNotAllowed) ∷ too_short n count ∷ [])

abbrev pub fill_refusal : ℕ → ℕ → ℕ → ℕ → Option Refusal
fill_refusal n level size count = first_of ((not (n == size), SizesDiffer) ∷ too_short n count ∷ all_filled n level ∷ [])

abbrev pub finish_refusal : ℕ → ℕ → Option Refusal
finish_refusal n level = first_of ((nat_lt (2 ^ level) n, LevelMissing) ∷ [])

abbrev pub figure_refusal : ℕ → ℕ → ℕ → Option Refusal
figure_refusal n count w = first_of (too_short n count ∷ (not (nat_lt w n), EntrantUnknown) ∷ [])

abbrev pub winners_refusal : ℕ → ℕ → ℕ → Option Refusal
winners_refusal n count winners = first_of (too_short n count ∷ ((winners == 0), NobodyCanWin) ∷ [])
