-- The lines of a report, one for each entrant.
use Rattle.std.specs.Prelude.{ℕ, Bool, cond, List, ◌++◌, codes, Option}
use Rattle.algebra.specs.Bribing.{price_text}
use Rattle.texts.specs.Columns.{aligned}
use Rattle.texts.specs.Numbers.{decimal}
use Rattle.reports.specs.Answers.{draws_text}

-- whether something can happen
abbrev pub chance_text : Bool → List ℕ
chance_text possible = cond possible (codes "yes") (codes "no")

-- four texts with their titles, each at the right end of its column: 2, 3, 10 and 9 wide
abbrev pub report_row : List ℕ → List ℕ → List ℕ → List ℕ → List ℕ
report_row entrant chance draws bribe =
    codes "entrant " ++ (aligned 2 entrant ++ (codes "  can win: " ++ (aligned 3 chance ++ (codes "  draws: " ++ (aligned 10 draws ++ (codes "  least bribe: " ++ aligned 9 bribe))))))

-- an entrant, whether he can win, in how many draws he does, and the least price at which he can
abbrev pub entrant_line : ℕ → Bool → ℕ → Option ℕ → List ℕ
entrant_line entrant possible number price = report_row (decimal entrant) (chance_text possible) (draws_text number) (price_text price)
