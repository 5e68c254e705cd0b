-- The bribe file: any pairing with a free side.
use Rattle.std.specs.Prelude.{ℕ, List, Some, Option}
use Rattle.facts.specs.Facts.{one_free}
use Rattle.facts.specs.Sheets.{Sheet}
use Rattle.sources.specs.declared.pairing.Pairing.{Pairing}
use Rattle.sources.specs.Held.{square_sheet, uniform_sheet}

-- the facts that a pairing keeps
abbrev pub told : Pairing → Option ℕ × Option ℕ
told p = (p.lower, p.higher)

-- what a bribe file of n entrants means, by the pairing at each place
abbrev pub bribe_sheet : ℕ → List Pairing → Sheet
bribe_sheet n pairings = square_sheet told (λ a b. one_free) n pairings

-- the sheet of n entrants on which every win is free
abbrev pub all_free : ℕ → Sheet
all_free n = uniform_sheet (λ a b. one_free) n (Some 0, Some 0)
