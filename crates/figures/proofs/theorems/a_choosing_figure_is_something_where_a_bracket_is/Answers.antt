use Rattle.figures.proofs.Chosen.{something_where_a_bracket_is}
use Rattle.figures.proofs.theorems.a_choosing_figure_is_something_where_a_bracket_is.Goals as goal

pub returns : goal.returns
returns g c =
    record { something_where_a_bracket_is = something_where_a_bracket_is g.V.Algebra.semiring g.met.V.Algebra.lawful g.met.V.Choosing.chooses }
