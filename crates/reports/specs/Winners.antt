-- The line of those who can win.
use Rattle.std.specs.Prelude.{ℕ, min, List, [], ◌∷◌, ◌++◌, codes, filter}
use Rattle.std.specs.List.{range_with_len}
use Rattle.figures.specs.Sets.{has}
use Rattle.texts.specs.Numbers.{decimal}

-- each number with a space before it
abbrev pub spaced : List ℕ → List ℕ
spaced [] = []
spaced (e ∷ es) = (codes " " ++ decimal e) ++ spaced es

-- the members of the set below n, rising
abbrev pub winners_below : ℕ → ℕ → List ℕ
winners_below winners n = codes "winners:" ++ spaced (filter (has winners) (range_with_len 0 n))

-- the entrants of a field of n who are in the set; a set holds nobody from 32 on
abbrev pub winners_line : ℕ → ℕ → List ℕ
winners_line winners n = winners_below winners (min n 32)
