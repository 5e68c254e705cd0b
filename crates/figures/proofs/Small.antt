-- The small fields, computed. Assumes nothing.
use Rattle.std.proofs.Common.{refl}
use lib.Count.{ones}
use Rattle.figures.specs.Lists.{gather}
use Rattle.figures.specs.Sums.{over}
use Rattle.figures.specs.Sets.{has, sub, half, members, lowest, halves}
use Rattle.figures.specs.Brackets.{pick, champion, rounds, listed_in, listed}
use Rattle.figures.specs.Figures.{worth, figure}
use Rattle.figures.specs.Examples.{SmallFields}

pub small_fields : SmallFields
unfolding over has sub half members lowest halves pick champion gather rounds listed_in listed worth figure ones
small_fields = record { orderly = refl; upset = refl }
