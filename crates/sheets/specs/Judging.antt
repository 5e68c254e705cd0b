-- What a word says where something is awaited, or the first fault that it has.
use Rattle.std.specs.Prelude.{ℕ, ◌+◌, ◌*◌, cond, not, ◌&&◌, ◌||◌, Some, None, Ok, Err, Option, Result, ◌==◌, nat_lt}
use Rattle.facts.specs.declared.refusals.Refusal.{Refusal}
use Rattle.facts.specs.declared.refusals.Refusal.TheVariants.{NotAHead, SizeNotAllowed, WordNotAwaited, EntrantsImpossible, EntrantsNotAwaited, PriceNotAllowed, SecondPriceNotFree, WordCountWrong}
use Rattle.facts.specs.Facts.{free, over_top}
use Rattle.facts.specs.Fields.{legal, opponents}
use Rattle.sources.specs.Kinds.{kind_of}
use Rattle.sources.specs.declared.kind.SourceKind.{SourceKind}
use Rattle.sheets.specs.declared.words.Word.{Word}
use Rattle.sheets.specs.declared.words.Word.TheVariants.{Head, Price, Upset, Outcome, Stray}
use Rattle.sheets.specs.declared.rows.Awaited.{Awaited}
use Rattle.sheets.specs.declared.rows.Awaited.TheVariants.{Head as a_head, Outcome as an_outcome, Upset as an_upset, Price as a_price, Nothing as nothing}
use Rattle.sheets.specs.declared.rows.Said.{Said}
use Rattle.sheets.specs.declared.rows.Said.TheVariants.{Head as field, Row as row}

-- the head of a source of n entrants, whose kind is known or is not one
abbrev pub sourced : ℕ → Result SourceKind Refusal → Result Said Refusal
sourced n (Ok kind) = Ok (field n kind)
sourced n (Err e) = Err e

abbrev pub judged_head : Word → Result Said Refusal
judged_head (Head n source) = cond (not (legal n)) (Err SizeNotAllowed) (sourced n (kind_of source))
judged_head (Price w l fact) = Err NotAHead
judged_head (Upset w l) = Err NotAHead
judged_head (Outcome w l) = Err NotAHead
judged_head Stray = Err NotAHead

-- the result of a lower and a higher number is awaited
abbrev pub judged_outcome : ℕ → ℕ → ℕ → Word → Result Said Refusal
judged_outcome n lower higher (Outcome w l) =
    cond (not (opponents n w l)) (Err EntrantsImpossible)
    (cond (w == lower && l == higher) (Ok (row lower higher (Some 0, None)))
    (cond (w == higher && l == lower) (Ok (row lower higher (None, Some 0)))
    (Err EntrantsNotAwaited)))
judged_outcome n lower higher (Head size source) = Err WordNotAwaited
judged_outcome n lower higher (Price w l fact) = Err WordNotAwaited
judged_outcome n lower higher (Upset w l) = Err WordNotAwaited
judged_outcome n lower higher Stray = Err WordNotAwaited

-- an upset is awaited that stands at a place or behind it
abbrev pub judged_upset : ℕ → ℕ → Word → Result Said Refusal
judged_upset n from (Upset w l) =
    cond (not (opponents n w l)) (Err EntrantsImpossible)
    (cond (nat_lt w l || nat_lt (w * 16 + l) from) (Err EntrantsNotAwaited)
    (Ok (row w l (Some 0, Some 0))))
judged_upset n from (Head size source) = Err WordNotAwaited
judged_upset n from (Price w l fact) = Err WordNotAwaited
judged_upset n from (Outcome w l) = Err WordNotAwaited
judged_upset n from Stray = Err WordNotAwaited

-- what it takes for a winner to beat a loser, as far as it is a fact, beside what it takes the other way round
abbrev pub priced : ℕ → ℕ → Option (Option ℕ) → Option ℕ → Result Said Refusal
priced w l None other = Err PriceNotAllowed
priced w l (Some fact) other =
    cond (over_top fact) (Err PriceNotAllowed)
    (cond (not (free fact || free other)) (Err SecondPriceNotFree)
    (Ok (row w l (fact, other))))

-- the price of a winner over a loser is awaited, and the price of the loser over the winner is `other` as far as it is known
abbrev pub judged_price : ℕ → ℕ → ℕ → Option ℕ → Word → Result Said Refusal
judged_price n winner loser other (Price w l fact) =
    cond (not (opponents n w l)) (Err EntrantsImpossible)
    (cond (not (w == winner && l == loser)) (Err EntrantsNotAwaited)
    (priced w l fact other))
judged_price n winner loser other (Head size source) = Err WordNotAwaited
judged_price n winner loser other (Upset w l) = Err WordNotAwaited
judged_price n winner loser other (Outcome w l) = Err WordNotAwaited
judged_price n winner loser other Stray = Err WordNotAwaited

-- of n entrants
abbrev pub judged : ℕ → Awaited → Word → Result Said Refusal
judged n a_head word = judged_head word
judged n (an_outcome lower higher) word = judged_outcome n lower higher word
judged n (an_upset from) word = judged_upset n from word
judged n (a_price winner loser other) word = judged_price n winner loser other word
judged n nothing word = Err WordCountWrong
