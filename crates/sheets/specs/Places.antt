-- Where rows stand. The place of winner w and loser l is 16 w + l, so that rising places rise by winner, then by loser.
use Rattle.std.specs.Prelude.{ℕ, ◌-◌, ◌/◌, ◌%◌, Bool, ◌&&◌, Option, nat_lt}
use Rattle.std.specs.List.{range_with_len, find}
use Rattle.facts.specs.Fields.{opponents}
use Rattle.sources.specs.declared.kind.SourceKind.{SourceKind}
use Rattle.sources.specs.declared.kind.SourceKind.TheVariants.{Matrix, Order, Bribes}

-- a sheet of n entrants can have a row at the place p: a matrix for a lower and a higher number, an order for a weaker
-- who beats a stronger, a bribe sheet for every winner and other loser
abbrev pub has_row : SourceKind → ℕ → ℕ → Bool
has_row Matrix n p = opponents n (p / 16) (p % 16) && nat_lt (p / 16) (p % 16)
has_row Order n p = opponents n (p / 16) (p % 16) && nat_lt (p % 16) (p / 16)
has_row Bribes n p = opponents n (p / 16) (p % 16)

-- the first place from here on that can have a row
abbrev pub next_row : SourceKind → ℕ → ℕ → Option ℕ
next_row k n from = find (has_row k n) (range_with_len from (256 - from))
