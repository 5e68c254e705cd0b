use Rattle.figures.proofs.Counting.{forgotten, remembered}
use Rattle.figures.proofs.Listed.{all_listed, on_powers}
use Rattle.figures.proofs.theorems.listing_has_each_filled_bracket_once.Goals as goal

pub returns : goal.returns
returns c =
    record {
      listed_each_once = all_listed;
      filled_where_the_bracket_is = λ s t. (forgotten t s, remembered t s);
      on_powers_of_two_only = on_powers;
    }
