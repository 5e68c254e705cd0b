-- A grid of weights while the source is asked, pairing by pairing.
use Rattle.std.specs.Prelude.{◌≡◌, ℕ, ◌+◌, ◌*◌, ◌<◌, min, max, List}
use Rattle.algebra.specs.Semirings.{Semiring}
use Rattle.figures.specs.Fields.{Field}
use Rattle.cells.specs.Renewal.{weight_of}

-- it holds the weights of those two entrants who stand, lower number first, before a place
abbrev pub WeighedBelow : {M : Type 0} → Semiring M → Field → List M → ℕ → Type 0
WeighedBelow A f grid p =
    (w b : ℕ) → w < f.size → b < f.size → min w b * 16 + max w b < p → weight_of A grid w b ≡ A.weight (f.beats w b)
