use Rattle.std.proofs.Common.{◌≡◌, map}
use Rattle.figures.specs.Sums.{over}
use Rattle.cells.specs.Renewal.{cell_of, weight_of}
use Rattle.cells.proofs.refresh.Below.beaten.Given as goal

-- the sum over the losers so far
abbrev pub invariant-loop-loser : goal.invariant-loop-loser
invariant-loop-loser g l =
    let m = g.V.Algebra in
    let A = m.semiring in
    m.means l.sum ≡ over A l.yielded (λ b. A.times (cell_of A l.self.size.entrants (map m.means l.self.cells.now) l.rest b) (weight_of A (map m.means l.self.weights.now) l.winner b))
