-- The record of a filled bracket.
use Rattle.std.specs.Prelude.{ℕ, suc, ◌-◌, ◌*◌, List, [], ◌∷◌, ◌++◌}
use Rattle.figures.specs.Brackets.{Filled, sole, match, pick, champion}
use Rattle.records.specs.Words.{leaf_word, match_word}

-- in which round its last match is, counted from 1, and 0 where there is no match; both halves of a bracket have as many
abbrev pub rounds_of : Filled → ℕ
rounds_of (sole e) = 0
rounds_of (match side l r) = suc (rounds_of l)

-- the words of a filled bracket: its last match, then the first half, which has the lowest entrant, then the second half,
-- down to leaves
unfoldable pub record_words : Filled → List ℕ
record_words (sole e) = leaf_word e ∷ []
record_words (match side l r) =
    let x = champion l in
    let y = champion r in
    match_word (suc (rounds_of l)) (pick side x y) (pick side y x) ∷ (record_words l ++ record_words r)

-- how many words the record of n entrants has: n leaves and n - 1 matches
abbrev pub word_count : ℕ → ℕ
word_count n = 2 * n - 1
