-- Draws: in how many ways something can come about.
use Rattle.std.specs.Prelude.{ℕ, ◌+◌, ◌*◌, ◌≤◌, min, cond, ◌==◌}
use Rattle.std.proofs.Math.Nat.{min-le_right}
use Rattle.facts.specs.Facts.{free}
use Rattle.algebra.specs.Semirings.{Semiring}

-- a number of draws; the top, 999,999,999, stands for that many or more
pub record Count : Type 0 where
  pub number : ℕ
  pub within : number ≤ 999999999

-- the count of a whole number: the number, cut at the top
abbrev pub counted : ℕ → Count
counted n = record { number = min n 999999999; within = min-le_right n 999999999 }

-- sums and products of whole numbers, cut at the top; a win that comes free counts once, and any other not at all
abbrev pub drawing : Semiring Count
drawing =
    record {
      nothing = counted 0;
      one = counted 1;
      plus = λ x y. counted (x.number + y.number);
      times = λ x y. counted (x.number * y.number);
      same = λ x y. (x.number == y.number);
      weight = λ fact. counted (cond (free fact) 1 0);
    }
