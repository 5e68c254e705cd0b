-- The field of a knockout.
use Rattle.std.specs.Prelude.{ℕ, Bool, not, ◌&&◌, ◌||◌, ◌==◌, nat_lt}

-- a knockout has 2, 4, 8 or 16 entrants
abbrev pub legal : ℕ → Bool
legal n = n == 2 || (n == 4 || (n == 8 || n == 16))

-- a and b are two different entrants of a field of n, who are numbered from 0
abbrev pub opponents : ℕ → ℕ → ℕ → Bool
opponents n a b = nat_lt a n && (nat_lt b n && not (a == b))
