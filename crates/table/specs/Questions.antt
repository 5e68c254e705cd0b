-- What a complete table is asked.
use Rattle.std.specs.Prelude.{◌≡◌, ℕ, zero, suc, ◌+◌, ◌-◌, ◌^◌, ◌<◌, Bool, cond, List, map, length, slice_index_or}
use Rattle.std.specs.List.{range_with_len}
use Rattle.algebra.specs.Semirings.{Semiring}
use Rattle.figures.specs.Sums.{over}
use Rattle.cells.specs.Renewal.{cell_of}

-- the set of all n entrants
abbrev pub everybody : ℕ → ℕ
everybody n = 2 ^ n - 1

-- of the cells of n entrants, those of the set of all: one for each entrant
pub record OfAll {V M : Type 0} (A : Semiring M) (means : V → M) (n : ℕ) (cells row : List V) : Type 0 where
  pub as_many : length row ≡ n
  pub each : (w : ℕ) → w < n → slice_index_or (map means row) w A.nothing ≡ cell_of A n (map means cells) (everybody n) w

-- the sum over all n entrants of what each has in the set of all
abbrev pub tally_of : {M : Type 0} → Semiring M → ℕ → (ℕ → ℕ → M) → M
tally_of A n figures = over A (range_with_len 0 n) (figures (everybody n))

-- the set of those of n entrants who pass a test: the sum of 2 ^ w over them
abbrev pub set_of : ℕ → (ℕ → Bool) → ℕ
set_of zero test = 0
set_of (suc n) test = set_of n test + cond (test n) (2 ^ n) 0

-- the set of those of n entrants who can win: yes stands for each of them in the set of all
abbrev pub winners_of : ℕ → (ℕ → ℕ → Bool) → ℕ
winners_of n figures = set_of n (figures (everybody n))
