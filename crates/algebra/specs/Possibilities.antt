-- Possibility: whether something can happen at all.
use Rattle.std.specs.Prelude.{Bool, true, false, ◌&&◌, ◌||◌}
use Rattle.std.specs.Bool.{beq}
use Rattle.facts.specs.Facts.{free}
use Rattle.algebra.specs.Semirings.{Semiring}

-- no and yes; a sum is or, a product is and, and only a win that comes free is possible
abbrev pub possibilities : Semiring Bool
possibilities =
    record {
      nothing = false;
      one = true;
      plus = λ x y. x || y;
      times = λ x y. x && y;
      same = λ x y. beq x y;
      weight = λ fact. free fact;
    }
