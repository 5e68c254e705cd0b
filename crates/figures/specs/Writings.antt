-- A bracket is an unordered pair: which half is written first makes no difference.
use Rattle.std.specs.Prelude.{◌≡◌, ℕ, ◌^◌, ◌⊎◌}
use Rattle.figures.specs.Brackets.{Side, first, second, Filled, sole, match, Halved}

-- the other side
abbrev pub other : Side → Side
other first = second
other second = first

-- two writings of one filled bracket: they differ at most in which half of a match is written first
abbrev pub Same : Filled → Filled → Type 0
Same (sole e) (sole d) = e ≡ d
Same (sole e) (match v m q) = ⊥
Same (match u l r) (sole d) = ⊥
Same (match u l r) (match v m q) = ((u ≡ v) × Same l m × Same r q) ⊎ ((u ≡ other v) × Same l q × Same r m)

-- a filled bracket on s, the halves of each match written in either order
abbrev pub Written : ℕ → Filled → Type 0
Written s (sole e) = s ≡ 2 ^ e
Written s (match side l r) = Halved s (λ a. Written a l) (λ b. Written b r)
