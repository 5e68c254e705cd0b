-- The cells of sets of one entrant.
use Rattle.std.specs.Prelude.{ℕ, ◌^◌, Bool, ◌&&◌, ◌==◌, nat_lt}

-- those of the entrants below j
abbrev pub of_singles : ℕ → ℕ → ℕ → Bool
of_singles j x y = x == 2 ^ y && nat_lt y j
