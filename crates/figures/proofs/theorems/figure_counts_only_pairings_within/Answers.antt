use Rattle.figures.proofs.Local.{pairings_within, one_pairing}
use Rattle.figures.proofs.theorems.figure_counts_only_pairings_within.Goals as goal

pub returns : goal.returns
returns g c = record { pairings_within = pairings_within g.V.Algebra.semiring; one_pairing = one_pairing g.V.Algebra.semiring }
