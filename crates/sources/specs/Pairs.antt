-- A pair of facts that every sheet allows.
use Rattle.std.specs.Prelude.{ℕ, Bool, not, ◌&&◌, ◌||◌, Option}
use Rattle.facts.specs.Facts.{over_top, one_free}

-- one side is free, and neither price is above the top
abbrev pub allowed : Option ℕ × Option ℕ → Bool
allowed facts = one_free facts.0 facts.1 && not (over_top facts.0 || over_top facts.1)
