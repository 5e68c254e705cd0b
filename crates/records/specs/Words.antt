-- The words of a record. A word has 32 bits; the top three are its kind.
use Rattle.std.specs.Prelude.{ℕ, ◌+◌, ◌*◌, ◌/◌, ◌%◌, ◌^◌, Bool, cond, ◌&&◌, ◌==◌}
use Rattle.records.specs.declared.words.Match.{Match}
use Rattle.records.specs.declared.words.Word.{Word}
use Rattle.records.specs.declared.words.Word.TheVariants.{Leaf, Match as match_told, Stray}

-- the word of a leaf: kind 0, the entrant in bits 3 to 0
abbrev pub leaf_word : ℕ → ℕ
leaf_word entrant = entrant

-- the word of a match: kind 1, the winner in bits 3 to 0, the loser in 7 to 4, the round in 11 to 8
abbrev pub match_word : ℕ → ℕ → ℕ → ℕ
match_word round winner loser = 2 ^ 29 + round * 2 ^ 8 + loser * 2 ^ 4 + winner

-- the word is of kind 0, and none of the bits 28 to 4 is set, which a leaf does not use
abbrev pub leaf_shaped : ℕ → Bool
leaf_shaped w = w / 2 ^ 29 == 0 && w / 2 ^ 4 % 2 ^ 25 == 0

-- the word is of kind 1, and none of the bits 28 to 12 is set, which a match does not use
abbrev pub match_shaped : ℕ → Bool
match_shaped w = w / 2 ^ 29 == 1 && w / 2 ^ 12 % 2 ^ 17 == 0

-- whom a word names first: a leaf its entrant, a match its winner
abbrev pub named : ℕ → ℕ
named w = w % 2 ^ 4

-- the match that a word tells of
abbrev pub match_in : ℕ → Match
match_in w = record { round = w / 2 ^ 8 % 2 ^ 4; winner = named w; loser = w / 2 ^ 4 % 2 ^ 4 }

-- the word that the bits say: a stray one where the kind is another or an unused bit is set
abbrev pub word_of : ℕ → Word
word_of w = cond (leaf_shaped w) (Leaf (named w)) (cond (match_shaped w) (match_told (match_in w)) Stray)
