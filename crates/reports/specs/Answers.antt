-- How single answers of a table are written. How a price is, algebra's `price_text` says.
use Rattle.std.specs.Prelude.{ℕ, cond, List, ◌++◌, codes, ◌==◌}
use Rattle.texts.specs.Numbers.{decimal}

-- a number of draws; the top count, 999,999,999, stands for that many or more
abbrev pub draws_text : ℕ → List ℕ
draws_text number = cond (number == 999999999) (codes "999999999+") (decimal number)

-- the same with the words and the number laid out in a column
abbrev pub draws_cell : (List ℕ → List ℕ) → (ℕ → List ℕ) → ℕ → List ℕ
draws_cell words amount number = cond (number == 999999999) (words (codes "999999999+")) (amount number)

-- how many draws there are, over all entrants
abbrev pub tally_line : ℕ → List ℕ
tally_line number = codes "tally of draws: " ++ draws_text number
