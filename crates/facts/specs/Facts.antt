-- A fact tells what it takes for one entrant to beat another: a price, or None where no price buys the win.
use Rattle.std.specs.Prelude.{ℕ, Bool, false, ◌||◌, Some, None, Option, ◌==◌, nat_lt}

-- the win costs nothing
abbrev pub free : Option ℕ → Bool
free None = false
free (Some price) = price == 0

-- the price is above 1,000,000
abbrev pub over_top : Option ℕ → Bool
over_top None = false
over_top (Some price) = nat_lt 1000000 price

-- at least one of the two sides of a pairing is free
abbrev pub one_free : Option ℕ → Option ℕ → Bool
one_free f g = free f || free g
