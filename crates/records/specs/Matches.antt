-- Whether every match of a record agrees with what is beneath it.
use Rattle.std.specs.Prelude.{ℕ, zero, suc, ◌+◌, ◌-◌, ◌^◌, min, Bool, true, ◌&&◌, ◌||◌, List, [], ◌∷◌, drop, ◌==◌, nat_lt, slice_index}
use Rattle.records.specs.declared.words.Match.{Match}
use Rattle.records.specs.Words.{named, match_in}
use Rattle.records.specs.Records.{word_count}

-- the champion of the part that begins with these words: its first word names him
abbrev pub champion_in : List ℕ → ℕ
champion_in ws = named (slice_index ws 0)

-- the words behind the part of k rounds that these words begin with
abbrev pub behind : ℕ → List ℕ → List ℕ
behind k ws = drop (word_count (2 ^ k)) ws

-- the lowest entrant of the part of k rounds that these words begin with
abbrev pub lowest_in : ℕ → List ℕ → ℕ
lowest_in zero ws = named (slice_index ws 0)
lowest_in (suc k) [] = 0
lowest_in (suc k) (w ∷ ws) = min (lowest_in k ws) (lowest_in k (behind k ws))

-- x and y are a and b, in either order
abbrev pub the_two : ℕ → ℕ → ℕ → ℕ → Bool
the_two x y a b = (x == a && y == b) || (x == b && y == a)

-- the match is of this round and between a and b, and x, the lowest of the first half, is below y, that of the second
abbrev pub fair : ℕ → Match → ℕ → ℕ → ℕ → ℕ → Bool
fair round m a b x y = m.round == round && (the_two m.winner m.loser a b && nat_lt x y)

-- the match agrees with the two halves of k rounds that the words behind it begin with: it is of the next round and between
-- their champions, and the lowest entrant is in the first half
abbrev pub fair_over : ℕ → Match → List ℕ → Bool
fair_over k m ws = fair (suc k) m (champion_in ws) (champion_in (behind k ws)) (lowest_in k ws) (lowest_in k (behind k ws))

-- every match of the part of k rounds that these words begin with agrees so
abbrev pub agrees : ℕ → List ℕ → Bool
agrees zero ws = true
agrees (suc k) [] = true
agrees (suc k) (w ∷ ws) = fair_over k (match_in w) ws && (agrees k ws && agrees k (behind k ws))

-- what `fair_over` asks of a match of round k, by single words behind it: the lowest entrant of a part of j rounds, every match of which
-- has its lowest entrant in the first half, is the leaf j words after its first word
abbrev pub fair_here : ℕ → Match → List ℕ → Bool
fair_here k m ws =
    fair k m (named (slice_index ws 0)) (named (slice_index ws (2 ^ k - 1))) (named (slice_index ws (k - 1))) (named (slice_index ws (2 ^ k - 1 + (k - 1))))
