use Rattle.std.proofs.Common.{refl}
use Rattle.cells.specs.Walks.{ahead}
use Rattle.cells.proofs.halves.Halves.of.Goals as goal

pub returns-clause-all_halves_are_ahead : goal.returns-clause-all_halves_are_ahead
unfolding ahead
returns-clause-all_halves_are_ahead c = λ f. refl
