-- What comes of a call that may be refused.
use Rattle.std.specs.Prelude.{◌≡◌, Some, None, Ok, Err, Option, Result}
use Rattle.facts.specs.declared.refusals.Refusal.{Refusal}
use Rattle.facts.specs.declared.refused.Refused.{Refused}

-- a call that only may be refused: it is, by the refusal given, if any
abbrev pub decided : Option Refusal → Result (Unit {0}) Refusal
decided None = Ok tt
decided (Some e) = Err e

-- the answer is a good one where nothing refuses the call, and else it is that refusal
abbrev pub Answered : {X : Type 0} → Option Refusal → (X → Type 0) → Result X Refusal → Type 0
Answered None good (Ok x) = good x
Answered None good (Err e) = ⊥
Answered (Some refusal) good (Ok x) = ⊥
Answered (Some refusal) good (Err e) = e ≡ refusal

-- the answer is a good one where nothing refuses the call, and else what was moved in comes back beside that refusal
abbrev pub HandedOn : {X Y : Type 0} → Option Refusal → (X → Type 0) → Y → Result X (Refused Y) → Type 0
HandedOn None good moved (Ok x) = good x
HandedOn None good moved (Err e) = ⊥
HandedOn (Some refusal) good moved (Ok x) = ⊥
HandedOn (Some refusal) good moved (Err e) = (e.moved ≡ moved) × (e.refusal ≡ refusal)

-- what was shown to the call is changed as it is to be where nothing refuses the call, and else is what it was
abbrev pub Changed : {X : Type 0} → Option Refusal → (X → X → Type 0) → X → X → Type 0
Changed None does before after = does before after
Changed (Some refusal) does before after = after ≡ before
