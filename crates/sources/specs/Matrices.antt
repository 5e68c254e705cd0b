-- The result matrix: one side of each pairing is free, and the other never wins.
use Rattle.std.specs.Prelude.{ℕ, Bool, false, List, Some, None, Option, ◌==◌}
use Rattle.facts.specs.Sheets.{Sheet}
use Rattle.sources.specs.declared.matrix.Winner.{Winner}
use Rattle.sources.specs.declared.matrix.Winner.TheVariants.{Lower, Higher}
use Rattle.sources.specs.Held.{square_sheet, uniform_sheet}

-- the facts of a lower and a higher number, by which of them wins
abbrev pub result : Winner → Option ℕ × Option ℕ
result Lower = (Some 0, None)
result Higher = (None, Some 0)

-- one side free, the other never
abbrev pub certain : Option ℕ → Option ℕ → Bool
certain None None = false
certain None (Some price) = price == 0
certain (Some price) None = price == 0
certain (Some price) (Some other) = false

-- what a matrix of n entrants means, by who wins at each place
abbrev pub matrix_sheet : ℕ → List Winner → Sheet
matrix_sheet n winners = square_sheet result (λ a b. certain) n winners

-- the sheet of n entrants on which the lower number wins every match
abbrev pub lower_wins_all : ℕ → Sheet
lower_wins_all n = uniform_sheet (λ a b. certain) n (Some 0, None)
