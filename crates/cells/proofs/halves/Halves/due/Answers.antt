use Rattle.std.proofs.Common.{◌∙◌, arith}
use Rattle.cells.proofs.Steps.{step_missed, trying_next}
use Rattle.cells.proofs.halves.Halves.due.Goals as goal

pub loop-rest-preserved : goal.loop-rest-preserved
loop-rest-preserved c =
    let w = c.args.self.now in
    let r = c.loop-rest.rest in
    let q = c.loop-rest.invariant.1 (omega arith) in
    (c.loop-rest.invariant.0 ∙ step_missed w.set w.entrant w.others w.wanted r q (omega arith) c.if-rest-self.true, λ _. trying_next w.set w.entrant w.others w.wanted r q)
