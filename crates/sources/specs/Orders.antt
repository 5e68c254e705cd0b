-- The strength order: the lower number is the stronger.
use Rattle.std.specs.Prelude.{ℕ, Bool, true, not, ◌&&◌, List, Some, None, Option, ◌==◌}
use Rattle.facts.specs.Facts.{free}
use Rattle.facts.specs.Sheets.{Sheet}
use Rattle.sources.specs.declared.order.Upset.{Upset}
use Rattle.sources.specs.declared.order.Upset.TheVariants.{Marked, Unmarked}
use Rattle.sources.specs.Held.{turned, square_sheet, uniform_sheet}

-- the facts of a stronger and a weaker entrant, by whether an upset is marked
abbrev pub standing : Upset → Option ℕ × Option ℕ
standing Marked = (Some 0, Some 0)
standing Unmarked = (Some 0, None)

-- the weaker wins free or never
abbrev pub plain : Option ℕ → Bool
plain None = true
plain (Some price) = price == 0

-- the stronger wins free, the weaker free or never
abbrev pub ranked : ℕ → ℕ → Option ℕ → Option ℕ → Bool
ranked a b f g = not (a == b) && (free (turned a b (f, g)).0 && plain (turned a b (f, g)).1)

-- what an order of n entrants means, by whether an upset is marked at each place
abbrev pub order_sheet : ℕ → List Upset → Sheet
order_sheet n upsets = square_sheet standing ranked n upsets

-- the sheet of n entrants on which no upset is marked
abbrev pub no_upsets : ℕ → Sheet
no_upsets n = uniform_sheet ranked n (Some 0, None)
