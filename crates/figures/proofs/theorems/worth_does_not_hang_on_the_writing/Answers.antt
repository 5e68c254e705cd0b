use Rattle.figures.proofs.Writings.{same_worth}
use Rattle.figures.proofs.theorems.worth_does_not_hang_on_the_writing.Goals as goal

pub returns : goal.returns
returns g c = record { same_worth = same_worth g.V.Algebra.semiring g.met.V.Algebra.lawful }
