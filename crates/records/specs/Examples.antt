-- A small record.
use Rattle.std.specs.Prelude.{◌≡◌, [], ◌∷◌}
use Rattle.figures.specs.Brackets.{Filled, first, second, sole, match}
use Rattle.records.specs.Records.{record_words}

-- 0 beats 1 and 2 beats 3, then 2 beats 0
abbrev pub of_four : Filled
of_four = match second (match first (sole 0) (sole 1)) (match first (sole 2) (sole 3))

-- Its words.
abbrev pub WordsOfFour : Type 0
WordsOfFour =
    record_words of_four ≡ 0x2000_0202 ∷ 0x2000_0110 ∷ 0x0000_0000 ∷ 0x0000_0001 ∷ 0x2000_0132 ∷ 0x0000_0002 ∷ 0x0000_0003 ∷ []
