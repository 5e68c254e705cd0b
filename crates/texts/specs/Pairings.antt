-- The table of pairings, line by line.
use Rattle.std.specs.Prelude.{ℕ, cond, List, ◌++◌, Some, None, codes, Option, ◌==◌}
use Rattle.texts.specs.Columns.{aligned}
use Rattle.texts.specs.Numbers.{decimal}

-- what a fact reads as
abbrev pub fact_text : Option ℕ → List ℕ
fact_text None = codes "never"
fact_text (Some price) = cond (price == 0) (codes "free") (decimal price)

-- the same with the words and the price laid out in a column
abbrev pub fact_cell : (List ℕ → List ℕ) → (ℕ → List ℕ) → Option ℕ → List ℕ
fact_cell words amount None = words (codes "never")
fact_cell words amount (Some price) = cond (price == 0) (words (codes "free")) (amount price)

-- four texts side by side, each at the right end of its column: 5, 6, 10 and 11 wide, two spaces between
abbrev pub table_row : List ℕ → List ℕ → List ℕ → List ℕ → List ℕ
table_row first second first_wins second_wins =
    aligned 5 first ++ (codes "  " ++ (aligned 6 second ++ (codes "  " ++ (aligned 10 first_wins ++ (codes "  " ++ aligned 11 second_wins)))))

-- the titles over the columns
abbrev pub pairing_header : List ℕ
pairing_header = table_row (codes "first") (codes "second") (codes "first wins") (codes "second wins")

-- two entrants, what it takes for the first to beat the second, and for the second to beat the first
abbrev pub pairing_line : ℕ → ℕ → Option ℕ × Option ℕ → List ℕ
pairing_line a b facts = table_row (decimal a) (decimal b) (fact_text facts.0) (fact_text facts.1)
