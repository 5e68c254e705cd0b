use Rattle.figures.proofs.Chosen.{attained}
use Rattle.figures.proofs.theorems.a_choosing_figure_is_attained.Goals as goal

pub returns : goal.returns
returns g c = record { attained = attained g.V.Algebra.semiring g.met.V.Choosing.chooses }
