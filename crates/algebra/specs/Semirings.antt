-- What an algebra is, told by what its values mean.
use Rattle.std.specs.Prelude.{◌≡◌, ℕ, Bool, true, ◌⊎◌, None, Option}

-- the operations on meanings
pub record Semiring (M : Type 0) : Type 0 where
  -- a sum of no terms
  pub nothing : M
  -- a product of no factors
  pub one : M
  -- the one or the other
  pub plus : M → M → M
  -- the one and the other
  pub times : M → M → M
  -- whether two meanings are the same
  pub same : M → M → Bool
  -- what a win is worth, by what it takes: its price, or None where no price buys it
  pub weight : Option ℕ → M

-- the laws of every algebra
pub record LawfulSemiring {M : Type 0} (s : Semiring M) : Type 0 where
  pub plus_assoc : (x y z : M) → s.plus (s.plus x y) z ≡ s.plus x (s.plus y z)
  pub plus_comm : (x y : M) → s.plus x y ≡ s.plus y x
  pub plus_nothing : (x : M) → s.plus s.nothing x ≡ x
  pub times_assoc : (x y z : M) → s.times (s.times x y) z ≡ s.times x (s.times y z)
  pub times_comm : (x y : M) → s.times x y ≡ s.times y x
  pub times_one : (x : M) → s.times s.one x ≡ x
  -- a product distributes over a sum
  pub times_plus : (x y z : M) → s.times x (s.plus y z) ≡ s.plus (s.times x y) (s.times x z)
  pub times_nothing : (x : M) → s.times s.nothing x ≡ s.nothing
  -- the test answers yes of equal meanings, and of no others
  pub same_exactly : (x y : M) → (s.same x y ≡ true → x ≡ y) × (x ≡ y → s.same x y ≡ true)
  -- a win that no price buys weighs nothing
  pub weight_never : s.weight None ≡ s.nothing

-- a sum is always one of its two terms
abbrev pub Chooses : {M : Type 0} → Semiring M → Type 0
Chooses {M} s = (x y : M) → (s.plus x y ≡ x) ⊎ (s.plus x y ≡ y)

-- a map of meanings that takes the operations of one algebra to those of another
pub record Keeps {M N : Type 0} (s : Semiring M) (t : Semiring N) (f : M → N) : Type 0 where
  pub nothing : f s.nothing ≡ t.nothing
  pub one : f s.one ≡ t.one
  pub plus : (x y : M) → f (s.plus x y) ≡ t.plus (f x) (f y)
  pub times : (x y : M) → f (s.times x y) ≡ t.times (f x) (f y)
  -- of every fact, whatever its price
  pub weight : (fact : Option ℕ) → f (s.weight fact) ≡ t.weight fact
