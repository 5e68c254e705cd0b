-- Each refusal, the number by which people know it, and which of several comes first.
use Rattle.std.specs.Prelude.{ℕ, Bool, cond, List, [], ◌∷◌, Some, None, Option}
use Rattle.facts.specs.Fields.{legal}
use Rattle.facts.specs.declared.refusals.Refusal.{Refusal}
use Rattle.facts.specs.declared.refusals.Refusal.TheVariants.{LengthNotWords, NotAHead, SizeNotAllowed, SourceUnknown, WordNotAwaited, EntrantsImpossible, EntrantsNotAwaited, PriceNotAllowed, SecondPriceNotFree, WordCountWrong, EntrantUnknown, EntrantsEqual, PriceAboveTop, NeitherSideFree, PairingNotCarried, MemoryTooShort, RecordLengthWrong, RecordWordMisplaced, LeafImpossible, MatchImpossible, SizesDiffer, NoWitness, NobodyCanWin, LevelsAllFilled, LevelMissing}

abbrev pub number_of : Refusal → ℕ
number_of LengthNotWords = 1
number_of NotAHead = 2
number_of SizeNotAllowed = 3
number_of SourceUnknown = 4
number_of WordNotAwaited = 5
number_of EntrantsImpossible = 6
number_of EntrantsNotAwaited = 7
number_of PriceNotAllowed = 8
number_of SecondPriceNotFree = 9
number_of WordCountWrong = 10
number_of EntrantUnknown = 11
number_of EntrantsEqual = 12
number_of PriceAboveTop = 13
number_of NeitherSideFree = 14
number_of PairingNotCarried = 15
number_of MemoryTooShort = 16
number_of RecordLengthWrong = 17
number_of RecordWordMisplaced = 18
number_of LeafImpossible = 19
number_of MatchImpossible = 20
number_of SizesDiffer = 31
number_of NoWitness = 32
number_of NobodyCanWin = 33
number_of LevelsAllFilled = 34
number_of LevelMissing = 35

-- the first refusal of a list whose condition holds, and none where no condition does
abbrev pub first_of : List (Bool × Refusal) → Option Refusal
first_of [] = None
first_of (check ∷ checks) = cond check.0 (Some check.1) (first_of checks)

-- the refusal of a size that no knockout has
abbrev pub size_refusal : ℕ → Option Refusal
size_refusal n = cond (legal n) None (Some SizeNotAllowed)
