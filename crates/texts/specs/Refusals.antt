-- What the program says when it refuses: what is wrong, and what to mend.
use Rattle.std.specs.Prelude.{ℕ, List, ◌++◌, codes}
use Rattle.facts.specs.declared.refusals.Refusal.{Refusal}
use Rattle.facts.specs.declared.refusals.Refusal.TheVariants.{LengthNotWords, NotAHead, SizeNotAllowed, SourceUnknown, WordNotAwaited, EntrantsImpossible, EntrantsNotAwaited, PriceNotAllowed, SecondPriceNotFree, WordCountWrong, EntrantUnknown, EntrantsEqual, PriceAboveTop, NeitherSideFree, PairingNotCarried, MemoryTooShort, RecordLengthWrong, RecordWordMisplaced, LeafImpossible, MatchImpossible, SizesDiffer, NoWitness, NobodyCanWin, LevelsAllFilled, LevelMissing}
use Rattle.facts.specs.Refusals.{number_of}
use Rattle.texts.specs.Numbers.{decimal}

-- what is wrong
abbrev pub cause_text : Refusal → List ℕ
cause_text LengthNotWords = codes "the sheet is empty, or its last word is cut short"
cause_text NotAHead = codes "the first word is not a head, or the head says more than it may"
cause_text SizeNotAllowed = codes "a knockout cannot have this number of entrants"
cause_text SourceUnknown = codes "the head names source 3, which does not exist"
cause_text WordNotAwaited = codes "another kind of word belongs here, or the word says more than it may"
cause_text EntrantsImpossible = codes "the word names an entrant who is not in the field, or the same entrant twice"
cause_text EntrantsNotAwaited = codes "it is not the turn of these two entrants, or the winner of the upset is the stronger"
cause_text PriceNotAllowed = codes "the price is above 1,000,000, or 'never' stands together with a price"
cause_text SecondPriceNotFree = codes "the second price of this pairing leaves no side free"
cause_text WordCountWrong = codes "the sheet ends too early, or a word is left over"
cause_text EntrantUnknown = codes "an entrant is not in the field"
cause_text EntrantsEqual = codes "both entrants are the same"
cause_text PriceAboveTop = codes "a price is above 1,000,000"
cause_text NeitherSideFree = codes "neither side of the pairing is free"
cause_text PairingNotCarried = codes "this source does not carry such a pairing"
cause_text MemoryTooShort = codes "the memory that was given is too small"
cause_text RecordLengthWrong = codes "the record has not as many words as a bracket of this field"
cause_text RecordWordMisplaced = codes "a word of the record is of another kind than its place asks, or says more than it may"
cause_text LeafImpossible = codes "a leaf of the record names an entrant who is not in the field, or one who was named before"
cause_text MatchImpossible = codes "a match of the record has a wrong round, is not between the champions beneath it, or has its lowest entrant in the second half"
cause_text SizesDiffer = codes "the table was opened for another number of entrants than the sheet has"
cause_text NoWitness = codes "no bracket makes this entrant the champion, or the cells are not those of a filled table"
cause_text NobodyCanWin = codes "nobody can win"
cause_text LevelsAllFilled = codes "every level of the table is filled already"
cause_text LevelMissing = codes "a level of the table is not filled yet"

-- what to mend
abbrev pub mend_text : Refusal → List ℕ
mend_text LengthNotWords = codes "make the sheet of whole words, four bytes each, and of one word at least"
mend_text NotAHead = codes "begin the sheet with a head of kind 2 that holds the source and the size and nothing else"
mend_text SizeNotAllowed = codes "make the size 2, 4, 8 or 16"
mend_text SourceUnknown = codes "name source 0 (result matrix), 1 (strength order) or 2 (bribe file)"
mend_text WordNotAwaited = codes "write the kind of word that belongs here, and leave what it does not use at zero"
mend_text EntrantsImpossible = codes "name two different entrants, with numbers from 0 to one below the size"
mend_text EntrantsNotAwaited = codes "order results by lower, then higher number, and prices and upsets by winner, then loser; only the weaker, the higher number, wins an upset"
mend_text PriceNotAllowed = codes "give a price of at most 1,000,000, or 'never' and no price"
mend_text SecondPriceNotFree = codes "make one of the pairing's two prices 0"
mend_text WordCountWrong = codes "give all the words that the sheet needs, and none after them"
mend_text EntrantUnknown = codes "give the number of an entrant, from 0 to one below the size"
mend_text EntrantsEqual = codes "name two different entrants"
mend_text PriceAboveTop = codes "give no price above 1,000,000"
mend_text NeitherSideFree = codes "make one of the two sides free, at price 0"
mend_text PairingNotCarried = codes "in a result matrix make one side free and the other never; in a strength order make the stronger side free and the weaker free or never"
mend_text MemoryTooShort = codes "give more memory and try again"
mend_text RecordLengthWrong = codes "give one word fewer than twice the number of entrants"
mend_text RecordWordMisplaced = codes "write a match, then its half with the lowest entrant, then the other half, down to leaves, and leave unused bits at zero"
mend_text LeafImpossible = codes "name each entrant of the field in one leaf"
mend_text MatchImpossible = codes "count rounds from 1 at the leaves' matches, let the champions of both halves meet, and put the half with the lowest entrant first"
mend_text SizesDiffer = codes "open a table for as many entrants as the sheet has"
mend_text NoWitness = codes "ask for an entrant whose figure is not nothing, on a table that was filled"
mend_text NobodyCanWin = codes "fill the table afresh: on every sheet somebody can win"
mend_text LevelsAllFilled = codes "finish the table instead of filling one more level"
mend_text LevelMissing = codes "fill every level before the table is finished"

-- the refusal of a call
abbrev pub refusal_line : Refusal → List ℕ
refusal_line refusal = codes "refused by " ++ (decimal (number_of refusal) ++ (codes ": " ++ cause_text refusal))

-- the refusal of a sheet, with the word at which the reading stopped
abbrev pub sheet_refusal_line : Refusal → ℕ → List ℕ
sheet_refusal_line refusal word =
    codes "refused by " ++ (decimal (number_of refusal) ++ (codes " at word " ++ (decimal word ++ (codes ": " ++ cause_text refusal))))

abbrev pub mend_line : Refusal → List ℕ
mend_line refusal = codes "to mend: " ++ mend_text refusal
