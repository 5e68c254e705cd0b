use Rattle.figures.proofs.Halves.{none_outside, none_off_powers}
use Rattle.figures.proofs.theorems.figure_is_nothing_where_there_is_no_bracket.Goals as goal

pub returns : goal.returns
returns g c = record { none_outside = none_outside g.V.Algebra.semiring g.met.V.Algebra.lawful; none_off_powers = none_off_powers g.V.Algebra.semiring g.met.V.Algebra.lawful }
