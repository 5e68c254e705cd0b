-- What one pass over the words finds.
use Rattle.std.specs.Prelude.{◌≡◌, ℕ, zero, suc, List, [], ◌∷◌, Result}
use Rattle.facts.specs.declared.refusals.Refusal.{Refusal}
use Rattle.facts.specs.Outcomes.{Answered}
use Rattle.algebra.specs.Semirings.{Semiring}
use Rattle.figures.specs.Brackets.{rounds}
use Rattle.figures.specs.Fields.{Field}
use Rattle.records.specs.declared.words.Match.{Match}
use Rattle.records.specs.Words.{match_in}
use Rattle.records.specs.Places.{places, first_of}
use Rattle.records.specs.Refusing.{place_refusal, matches_refusal}

module _ {M : Type 0} (A : Semiring M) (f : Field) where
  -- what the winner's beating the loser is worth
  abbrev pub win_of : Match → M
  win_of m = A.weight (f.beats m.winner m.loser)

  -- the product of what the wins are worth, over the words where the places ask for a match
  abbrev pub wins_in : List ℕ → List ℕ → M
  wins_in [] ws = A.one
  wins_in (zero ∷ ks) [] = A.one
  wins_in (suc k ∷ ks) [] = A.one
  wins_in (zero ∷ ks) (w ∷ ws) = wins_in ks ws
  wins_in (suc k ∷ ks) (w ∷ ws) = A.times (win_of (match_in w)) (wins_in ks ws)

-- the refusal of the first word that its place does not take, or else of the matches, if some match does not agree with what is
-- beneath it; and where there is none, the product of what the wins are worth
abbrev pub Read : {V M : Type 0} → (V → M) → Semiring M → Field → List ℕ → Result V Refusal → Type 0
Read means A f ws r =
    Answered (first_of (place_refusal f.size ws) (matches_refusal f.size ws)) (λ v. means v ≡ wins_in A f (places (rounds f.size)) ws) r
