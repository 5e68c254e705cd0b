use Rattle.std.proofs.Common.{◌+◌, ◌*◌, set, ◌∙◌, arith, length-set}
use Rattle.facts.proofs.Refusing.{legal_some}
use Rattle.figures.specs.Fields.{field_of}
use Rattle.cells.proofs.Weights.{one_more}
use Rattle.cells.proofs.grid.ask_row.Goals as goal

pub loop-b-preserved : goal.loop-b-preserved
loop-b-preserved g c =
    let source = c.args.source.now in
    let f = field_of (g.S.MatchSource.sheet source) in
    let small = (legal_some f.size (g.met.S.MatchSource.lawful source).size_legal).1 in
    let grid = c.loop-b.grid in
    let a = c.args.a in
    let b = c.loop-b.b in
    let forth = c.weights_of-forth.result.0 in
    let back = c.weights_of-forth.result.1 in
    let below = c.size-b-end.ensures.is_the_size_of_the_field in (
      length-set (set grid (a * 16 + b) forth) (b * 16 + a) back ∙ length-set grid (a * 16 + b) forth ∙ c.loop-b.invariant.0,
      one_more g.V.Algebra.semiring g.V.Algebra.means f grid a b forth back small (omega arith) (omega arith) (omega (arith, c.loop-b.invariant.0))
          c.weights_of-forth.ensures.forth c.weights_of-forth.ensures.back c.loop-b.invariant.1,
    )
