use Rattle.std.proofs.Common.{rules}
use Rattle.algebra.specs.Costs.{same_cost}
use Rattle.algebra.proofs.bribe.BribeAlgebra.weight.Goals as goal

pub returns : goal.returns
returns c = record { means_what_the_win_is_worth = same_cost _ _ (search rules) }
