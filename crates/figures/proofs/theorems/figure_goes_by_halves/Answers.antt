use Rattle.figures.proofs.Halves.{by_halves_lem}
use Rattle.figures.proofs.theorems.figure_goes_by_halves.Goals as goal

pub returns : goal.returns
returns g c = record { by_halves = by_halves_lem g.V.Algebra.semiring g.met.V.Algebra.lawful }
