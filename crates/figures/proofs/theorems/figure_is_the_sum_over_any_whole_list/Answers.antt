use Rattle.figures.proofs.Whole.{sum_of_any_list}
use Rattle.figures.proofs.theorems.figure_is_the_sum_over_any_whole_list.Goals as goal

pub returns : goal.returns
returns g c = record { sum_of_any_list = sum_of_any_list g.V.Algebra.semiring g.met.V.Algebra.lawful }
