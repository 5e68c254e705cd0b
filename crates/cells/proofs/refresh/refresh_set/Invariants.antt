use Rattle.cells.specs.Renewal.{Renewal}
use Rattle.cells.specs.Splits.{sum_of}
use Rattle.cells.proofs.Renewing.{written}
use Rattle.cells.proofs.refresh.refresh_set.Given as goal

-- the cells of the members so far are written
abbrev pub invariant-loop-entrant : goal.invariant-loop-entrant
invariant-loop-entrant g l =
    let m = g.V.Algebra in
    let n = l.size.entrants in
    Renewal m.semiring m.means n (written l.set l.yielded) (sum_of m.semiring m.means n l.weights l.initial.memory) l.initial.memory l.memory
