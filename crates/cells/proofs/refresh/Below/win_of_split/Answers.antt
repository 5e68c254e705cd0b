use Rattle.std.proofs.Common.{map, ◌∙◌}
use Rattle.cells.specs.Renewal.{cell_of, weight_of}
use Rattle.cells.proofs.Piling.{won_of_his_side, won_of_other_side}
use Rattle.cells.proofs.refresh.Below.win_of_split.Goals as goal

pub returns-then-holds : goal.returns-then-holds
returns-then-holds g c =
    let m = g.V.Algebra in
    let A = m.semiring in
    let below = c.args.self.now in
    let n = below.size.entrants in
    record {
      is_what_his_side_gives = c.win.ensures.is_what_that_half_gives
          ∙ won_of_his_side A g.met.V.Algebra.lawful (weight_of A (map m.means below.weights.now)) n (cell_of A n (map m.means below.cells.now)) c.args.half.set c.args.half.rest c.args.winner c.if-holds.ensures.says_whether_he_is_a_member;
    }

pub returns-else-holds : goal.returns-else-holds
returns-else-holds g c =
    let m = g.V.Algebra in
    let A = m.semiring in
    let below = c.args.self.now in
    let n = below.size.entrants in
    record {
      is_what_his_side_gives = c.win-else-holds.ensures.is_what_that_half_gives
          ∙ won_of_other_side A g.met.V.Algebra.lawful (weight_of A (map m.means below.weights.now)) n (cell_of A n (map m.means below.cells.now)) c.args.half.set c.args.half.rest c.args.winner c.if-holds.ensures.says_whether_he_is_a_member;
    }
