-- A table of cells, and what a refresh makes of it.
use Rattle.std.specs.Prelude.{◌≡◌, ℕ, ◌+◌, ◌*◌, ◌/◌, ◌%◌, ◌^◌, ◌<◌, Bool, true, false, ◌&&◌, List, map, length, ◌==◌, bit_and, count_ones, nat_lt, slice_index_or}
use Rattle.algebra.specs.Semirings.{Semiring}
use Rattle.figures.specs.Fields.{Field}
use Rattle.figures.specs.Sets.{has}
use Rattle.figures.specs.Figures.{by_halves}

module _ {M : Type 0} (A : Semiring M) where
  -- the cell of the set s and the entrant w, among n entrants
  unfoldable pub cell_of : ℕ → List M → ℕ → ℕ → M
  cell_of n cells s w = slice_index_or cells (s * n + w) A.nothing

  -- the weight of w beating b
  unfoldable pub weight_of : List M → ℕ → ℕ → M
  weight_of grid w b = slice_index_or grid (w * 16 + b) A.nothing

  -- the grid holds the weights of the field
  abbrev pub Weighed : Field → List M → Type 0
  Weighed f grid = (w b : ℕ) → w < f.size → b < f.size → weight_of grid w b ≡ A.weight (f.beats w b)

  -- Which cells a refresh is for, and what each becomes: of the memory, at each index, the value if it is due, and else
  -- what it held, whatever stands for a value where there is none.
  pub record Renewal {V : Type 0} (means : V → M) (n : ℕ) (due : ℕ → ℕ → Bool) (value : ℕ → ℕ → M) (before after : List V) : Type 0 where
    pub same_length : length after ≡ length before
    pub fresh : (i : ℕ) → i < length before → due (i / n) (i % n) ≡ true → slice_index_or (map means after) i A.nothing ≡ value (i / n) (i % n)
    pub held : (i : ℕ) (d : V) → due (i / n) (i % n) ≡ false → slice_index_or after i d ≡ slice_index_or before i d

-- the members of one set
abbrev pub of_set : ℕ → ℕ → ℕ → Bool
of_set s x y = x == s && has s y

-- a set of so many members that holds all of must
unfoldable pub wanted : ℕ → ℕ → ℕ → Bool
wanted size must s = count_ones s == size && bit_and s must == must

-- the members of such sets among n entrants
abbrev pub of_level : ℕ → ℕ → ℕ → ℕ → ℕ → Bool
of_level n size must x y = nat_lt x (2 ^ n) && (wanted size must x && has x y)

-- Whatever the field of n entrants whose weights the grid holds, each cell of each such set becomes its sum by halves,
-- taken from the cells as they were before.
abbrev pub Refreshed : {V M : Type 0} → Semiring M → (V → M) → ℕ → ℕ → ℕ → List V → List V → List V → Type 0
Refreshed A means n size must grid before after =
    (f : Field) → f.size ≡ n → Weighed A f (map means grid)
    → Renewal A means n (of_level n size must) (by_halves A f (cell_of A n (map means before))) before after
