use Rattle.std.proofs.Common.{map, sym, ◌∙◌, ap₂}
use Rattle.cells.specs.Renewal.{cell_of, weight_of}
use Rattle.cells.proofs.Piling.{won_in, won_out}
use Rattle.cells.proofs.refresh.Below.win.Goals as goal

pub returns-then-holds : goal.returns-then-holds
returns-then-holds g c =
    let m = g.V.Algebra in
    let A = m.semiring in
    let below = c.args.self.now in
    let n = below.size.entrants in
    record {
      is_what_that_half_gives = c.times.ensures.means_the_product ∙ ap₂ A.times c.cell.ensures.means_that_cell c.beaten.ensures.is_the_sum_over_the_losers
          ∙ won_in A g.met.V.Algebra.lawful (weight_of A (map m.means below.weights.now)) n (cell_of A n (map m.means below.cells.now)) c.args.half c.args.rest c.args.winner c.if-holds.ensures.says_whether_he_is_a_member;
    }

pub returns-else-holds : goal.returns-else-holds
returns-else-holds g c =
    let m = g.V.Algebra in
    let A = m.semiring in
    let below = c.args.self.now in
    let n = below.size.entrants in
    record {
      is_what_that_half_gives = c.nothing.ensures.means_nothing
          ∙ sym (won_out A g.met.V.Algebra.lawful (weight_of A (map m.means below.weights.now)) n (cell_of A n (map m.means below.cells.now)) c.args.half c.args.rest c.args.winner c.if-holds.ensures.says_whether_he_is_a_member);
    }
