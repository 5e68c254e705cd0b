-- How many brackets there are.
use Rattle.std.specs.Prelude.{◌≡◌, ℕ, zero, suc, ◌+◌, ◌-◌, ◌*◌, ◌^◌, true, false, cond, List, length, Ok, Err, Result, ◌==◌}
use Rattle.facts.specs.declared.refusals.Refusal.{Refusal}
use Rattle.facts.specs.declared.refusals.Refusal.TheVariants.{SizeNotAllowed}
use Rattle.facts.specs.Fields.{legal}
use Rattle.figures.specs.Lists.{EachOnce}
use Rattle.figures.specs.Brackets.{Bracket, BracketOn}

-- how many ways there are to choose j of m
unfoldable pub choose : ℕ → ℕ → ℕ
choose m zero = 1
choose zero (suc j) = 0
choose (suc m) (suc j) = choose m j + choose m (suc j)

-- how many brackets 2 ^ k entrants have: the companions of the lowest entrant in his half are chosen from all others, and
-- each half has its own brackets
unfoldable pub bracket_count : ℕ → ℕ
bracket_count zero = 1
bracket_count (suc k) = choose (2 * 2 ^ k - 1) (2 ^ k - 1) * (bracket_count k * bracket_count k)

-- the answer of a call that tells how many brackets n entrants have: as many as stand in any list that has each bracket on
-- the whole field once; another number of entrants is refused
abbrev pub HowMany : ℕ → Result ℕ Refusal → Type 0
HowMany n (Ok count) = (legal n ≡ true) × ((bs : List Bracket) → EachOnce (BracketOn (2 ^ n - 1)) bs → length bs ≡ count)
HowMany n (Err e) = (legal n ≡ false) × (e ≡ SizeNotAllowed)

-- and in numbers
abbrev pub brackets_of : ℕ → Result ℕ Refusal
brackets_of n =
    cond (n == 2) (Ok 1)
    (cond (n == 4) (Ok 3)
    (cond (n == 8) (Ok 315)
    (cond (n == 16) (Ok 638512875)
    (Err SizeNotAllowed))))
