-- The sum by halves with the weights from a grid, and a set split in two, seen from either side.
use Rattle.std.specs.Prelude.{ℕ, ◌-◌, cond, List, map, None}
use Rattle.algebra.specs.Semirings.{Semiring}
use Rattle.figures.specs.Fields.{Field}
use Rattle.figures.specs.Sums.{over}
use Rattle.figures.specs.Sets.{has, members, halves}
use Rattle.cells.specs.Renewal.{cell_of, weight_of}

-- n entrants; their pairings are not asked, since a grid has the weights
abbrev pub of_size : ℕ → Field
of_size n = record { size = n; beats = λ _ _. None }

module _ {M : Type 0} (A : Semiring M) where
  -- w comes out of a, and beats some b who comes out of the rest
  unfoldable pub meeting : (ℕ → ℕ → M) → ℕ → (ℕ → ℕ → M) → ℕ → ℕ → ℕ → M
  meeting weight n cells a rest w = over A (members (of_size n) rest) λ b. A.times (A.times (cells a w) (cells rest b)) (weight w b)

  -- the sum over the halves of s that hold w
  unfoldable pub by_halves_with : (ℕ → ℕ → M) → ℕ → (ℕ → ℕ → M) → ℕ → ℕ → M
  by_halves_with weight n cells s w = over A (halves (of_size n) s w) λ a. meeting weight n cells a (s - a) w

  -- that sum, from the values in memory
  abbrev pub sum_of : {V : Type 0} → (V → M) → ℕ → List V → List V → ℕ → ℕ → M
  sum_of means n grid cells s w = by_halves_with (weight_of A (map means grid)) n (cell_of A n (map means cells)) s w

  -- whoever comes out of the rest loses to w
  unfoldable pub lost_to : (ℕ → ℕ → M) → ℕ → (ℕ → ℕ → M) → ℕ → ℕ → M
  lost_to weight n cells rest w = over A (members (of_size n) rest) λ b. A.times (cells rest b) (weight w b)

  -- what w has from a against the rest: nothing where w is not in a
  unfoldable pub won : (ℕ → ℕ → M) → ℕ → (ℕ → ℕ → M) → ℕ → ℕ → ℕ → M
  won weight n cells a rest w = cond (has a w) (meeting weight n cells a rest w) A.nothing

  -- what w has of a set split in two: he comes out of a where it holds him, and else out of the rest
  unfoldable pub won_of_split : (ℕ → ℕ → M) → ℕ → (ℕ → ℕ → M) → ℕ → ℕ → ℕ → M
  won_of_split weight n cells a rest w = cond (has a w) (won weight n cells a rest w) (won weight n cells rest a w)
