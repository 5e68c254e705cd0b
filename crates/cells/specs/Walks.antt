-- What a walk through the halves of a set has ahead, and what it gives.
use Rattle.std.specs.Prelude.{◌≡◌, ℕ, ◌+◌, ◌-◌, ◌<◌, true, List, [], ◌∷◌, length, drop, Some, None, Option, count_ones, slice_index}
use Rattle.figures.specs.Fields.{Field}
use Rattle.figures.specs.Sets.{halves}
use Rattle.cells.specs.Standing.{holding, from, Trying}
use Rattle.cells.specs.declared.halves.Half.{Half}

-- the halves of s that hold e, by rising number, but for the first p of them, which were given
unfoldable pub ahead : Field → ℕ → ℕ → ℕ → List ℕ
ahead f s e p = drop p (halves f s e)

-- where p were given, all are ahead, whatever the field
abbrev pub AllAhead : ℕ → ℕ → ℕ → Type 0
AllAhead s e p = (f : Field) → ahead f s e p ≡ halves f s e

-- the answer is the first of xs, and ys are the others; there is none where xs is empty
abbrev pub Given : List ℕ → Option Half → List ℕ → Type 0
Given xs None ys = (xs ≡ []) × (ys ≡ [])
Given xs (Some h) ys = xs ≡ h.set ∷ ys

-- of what is ahead where p were given, the answer is the first, and the others are ahead where q were given
abbrev pub FirstGiven : ℕ → ℕ → ℕ → Option Half → ℕ → Type 0
FirstGiven s e p r q = (f : Field) → Given (ahead f s e p) r (ahead f s e q)

-- a half's place is p, as many as were given before it, and that is its index among all; then one more was given
abbrev pub PlaceTold : ℕ → ℕ → ℕ → Option Half → ℕ → Type 0
PlaceTold s e p None q = q ≡ p
PlaceTold s e p (Some h) q = (h.place ≡ p) × (q ≡ p + 1) × ((f : Field) → slice_index (halves f s e) h.place ≡ h.set)

-- what is given is a half of s that holds e, and its rest is the other half
abbrev pub RestTold : ℕ → ℕ → Option Half → Type 0
RestTold s e None = Unit {0}
RestTold s e (Some h) = (holding s e h.set ≡ true) × (h.rest ≡ s - h.set)

-- from the rest z on, the first half is the one that leaves r of s; there is none where r is empty
abbrev pub Due : ℕ → ℕ → ℕ → ℕ → ℕ → ℕ → Type 0
Due s e others wanted z r = (from s e z ≡ from s e r) × (0 < r → Trying s e others wanted r × (count_ones r ≡ wanted))

-- all that one step tells
abbrev pub Step : ℕ → ℕ → ℕ → Option Half → ℕ → Type 0
Step s e p r q = FirstGiven s e p r q × PlaceTold s e p r q × RestTold s e r

-- how many are ahead where p were given: a step lowers this in every field, so that a field of nobody will do
abbrev pub many_ahead : ℕ → ℕ → ℕ → ℕ
many_ahead s e p = length (ahead (record { size = 0; beats = λ _ _. None }) s e p)
