-- How a call that may be refused answers.
use Rattle.std.specs.Prelude.{◌≡◌, ℕ, true, false, Ok, Err, Result}
use Rattle.facts.specs.declared.refusals.Refusal.{Refusal}
use Rattle.facts.specs.declared.refusals.Refusal.TheVariants.{SizeNotAllowed}
use Rattle.facts.specs.Fields.{legal}
use Rattle.facts.specs.Sheets.{Sheet, SameSheet}

-- a new source of n entrants that means a given sheet, or the refusal of a size that no knockout has
abbrev pub Opened : {S : Type 0} → (S → Sheet) → ℕ → Sheet → Result S Refusal → Type 0
Opened sheet n given (Ok s) = (legal n ≡ true) × SameSheet (sheet s) given
Opened sheet n given (Err e) = (legal n ≡ false) × (e ≡ SizeNotAllowed)
