use Rattle.figures.proofs.Alone.{of_one}
use Rattle.figures.proofs.theorems.figure_of_one_entrant.Goals as goal

pub returns : goal.returns
returns g c = record { one_for_himself = of_one g.V.Algebra.semiring g.met.V.Algebra.lawful }
