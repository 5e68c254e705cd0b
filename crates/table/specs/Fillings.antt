-- What stands in memory while a table is filled.
use Rattle.std.specs.Prelude.{◌≡◌, ℕ, ◌^◌, ◌<◌, ◌≤◌, List, map, length, count_ones, slice_index_or}
use Rattle.algebra.specs.Semirings.{Semiring}
use Rattle.figures.specs.Fields.{Field}
use Rattle.figures.specs.Figures.{figure}
use Rattle.cells.specs.Renewal.{cell_of}

-- so many cells mean nothing
abbrev pub Blank : {M : Type 0} → Semiring M → ℕ → List M → Type 0
Blank A count cells = (i : ℕ) → i < count → slice_index_or cells i A.nothing ≡ A.nothing

-- so many values mean nothing, and those behind them are as they were
pub record Cleared {V M : Type 0} (A : Semiring M) (means : V → M) (count : ℕ) (before after : List V) : Type 0 where
  pub same_length : length after ≡ length before
  pub cleared : (i : ℕ) → i < count → slice_index_or (map means after) i A.nothing ≡ A.nothing
  pub held : (i : ℕ) (d : V) → count ≤ i → slice_index_or after i d ≡ slice_index_or before i d

module _ {M : Type 0} (A : Semiring M) (f : Field) where
  -- the cells of sets of up to 2 ^ k entrants mean their figures, and all others nothing
  pub record FilledTo (k : ℕ) (cells : List M) : Type 0 where
    pub figures : (s w : ℕ) → s < 2 ^ f.size → w < f.size → count_ones s ≤ 2 ^ k → cell_of A f.size cells s w ≡ figure A f s w
    pub rest : (s w : ℕ) → s < 2 ^ f.size → w < f.size → 2 ^ k < count_ones s → cell_of A f.size cells s w ≡ A.nothing

  -- every needed cell means its figure
  abbrev pub InOrder : List M → Type 0
  InOrder cells = (s w : ℕ) → s < 2 ^ f.size → w < f.size → cell_of A f.size cells s w ≡ figure A f s w

-- nothing changed from an index on
abbrev pub TailKept : {V : Type 0} → ℕ → List V → List V → Type 0
TailKept {V} from before after = (length after ≡ length before) × ((i : ℕ) (d : V) → from ≤ i → slice_index_or after i d ≡ slice_index_or before i d)
