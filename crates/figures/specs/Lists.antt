-- What a list has, and how often.
use Rattle.std.specs.Prelude.{◌≡◌, ◌⊎◌, List, [], ◌∷◌, ◌++◌}

-- x stands in the list
abbrev pub In : {X : Type 0} → X → List X → Type 0
In x [] = ⊥
In x (y ∷ ys) = (x ≡ y) ⊎ In x ys

-- nothing stands in the list twice
abbrev pub Distinct : {X : Type 0} → List X → Type 0
Distinct [] = Unit {0}
Distinct (x ∷ xs) = (In x xs → ⊥) × Distinct xs

-- the list has exactly what P holds of, each once, in whatever order
pub record EachOnce {X : Type 0} (P : X → Type 0) (xs : List X) : Type 0 where
  pub only : (x : X) → In x xs → P x
  pub every : (x : X) → P x → In x xs
  pub once : Distinct xs

-- the lists that g makes of the elements, one after the other
unfoldable pub gather : {X Y : Type 0} → List X → (X → List Y) → List Y
gather [] g = []
gather (x ∷ xs) g = g x ++ gather xs g
