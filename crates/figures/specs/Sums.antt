-- Sums in an algebra.
use Rattle.std.specs.Prelude.{List, [], ◌∷◌}
use Rattle.algebra.specs.Semirings.{Semiring}

-- the sum of what g makes of each element of a list
unfoldable pub over : {M X : Type 0} → Semiring M → List X → (X → M) → M
over A [] g = A.nothing
over A (x ∷ xs) g = A.plus (g x) (over A xs g)
