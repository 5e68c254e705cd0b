use Rattle.std.proofs.Common.{arith}
use Rattle.table.proofs.Rising.{all_filled_lem}
use Rattle.table.proofs.Roomy.{some, level_low}
use Rattle.table.proofs.stages.LevelFilled.finish.Goals as goal

pub overflow_shl-self : goal.overflow_shl-self
overflow_shl-self g c = omega (arith, level_low c.args.self.size c.args.self.level c.args.self.within)

pub returns-clause-all_levels_that_mean_their_figures_are_a_table_in_order :
    goal.returns-clause-all_levels_that_mean_their_figures_are_a_table_in_order
returns-clause-all_levels_that_mean_their_figures_are_a_table_in_order g c =
    λ f cells is none filled.
    all_filled_lem g.V.Algebra.semiring g.met.V.Algebra.lawful g.V.Algebra.means f (omega (arith, is, some c.args.self.size)) c.args.self.level cells (omega (arith, is)) filled
