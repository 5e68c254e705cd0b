-- What each place of a record asks of its word.
use Rattle.std.specs.Prelude.{ℕ, zero, suc, ◌^◌, cond, not, ◌&&◌, List, [], ◌∷◌, ◌++◌, Some, None, Option, bit_or, nat_lt}
use Rattle.facts.specs.declared.refusals.Refusal.{Refusal}
use Rattle.facts.specs.declared.refusals.Refusal.TheVariants.{RecordWordMisplaced, LeafImpossible}
use Rattle.figures.specs.Sets.{has}
use Rattle.records.specs.Words.{leaf_shaped, match_shaped}

-- the places of a part of k rounds: at each, how many rounds the part has that begins there, 0 asking for a leaf
abbrev pub places : ℕ → List ℕ
places zero = 0 ∷ []
places (suc k) = suc k ∷ (places k ++ places k)

-- the first of two refusals, if there is one
abbrev pub first_of : Option Refusal → Option Refusal → Option Refusal
first_of (Some e) later = Some e
first_of None later = later

-- the refusal of a word where a leaf is asked for, with n entrants and the set of those named before
abbrev pub leaf_refusal : ℕ → ℕ → ℕ → Option Refusal
leaf_refusal n seen w =
    cond (leaf_shaped w) (cond (nat_lt w n && not (has seen w)) None (Some LeafImpossible)) (Some RecordWordMisplaced)

-- the refusal of a word where a match is asked for
abbrev pub match_refusal : ℕ → Option Refusal
match_refusal w = cond (match_shaped w) None (Some RecordWordMisplaced)

-- the first refusal, word by word along the places, with n entrants and the set of those named before
abbrev pub misplaced : ℕ → ℕ → List ℕ → List ℕ → Option Refusal
misplaced n seen [] ws = None
misplaced n seen (zero ∷ ks) [] = None
misplaced n seen (suc k ∷ ks) [] = None
misplaced n seen (zero ∷ ks) (w ∷ ws) = first_of (leaf_refusal n seen w) (misplaced n (bit_or seen (2 ^ w)) ks ws)
misplaced n seen (suc k ∷ ks) (w ∷ ws) = first_of (match_refusal w) (misplaced n seen ks ws)
