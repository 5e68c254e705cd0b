-- What brackets and figures take from outside.
use Rattle.std.specs.Prelude.{ℕ, Option}
use Rattle.facts.specs.Sheets.{Sheet}

pub record Field : Type 0 where
  -- how many entrants there are; they are numbered from 0
  pub size : ℕ
  -- what it takes for the first entrant to beat the second
  pub beats : ℕ → ℕ → Option ℕ

-- the field of a sheet
abbrev pub field_of : Sheet → Field
field_of sheet = record { size = sheet.size; beats = sheet.beats }
