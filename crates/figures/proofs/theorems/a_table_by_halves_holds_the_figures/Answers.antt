use Rattle.figures.proofs.Tabled.{table_holds}
use Rattle.figures.proofs.theorems.a_table_by_halves_holds_the_figures.Goals as goal

pub returns : goal.returns
returns g c = record { table_holds = table_holds g.V.Algebra.semiring g.met.V.Algebra.lawful }
