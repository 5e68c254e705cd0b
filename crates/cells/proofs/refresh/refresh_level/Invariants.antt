use Rattle.cells.specs.Renewal.{Renewal}
use Rattle.cells.specs.Splits.{sum_of}
use Rattle.cells.proofs.Renewing.{sets_below}
use Rattle.cells.proofs.refresh.refresh_level.Given as goal

-- the cells of the sets so far are written
abbrev pub invariant-loop-set : goal.invariant-loop-set
invariant-loop-set g l =
    let m = g.V.Algebra in
    let n = l.size.entrants in
    Renewal m.semiring m.means n (sets_below l.members l.must l.set) (sum_of m.semiring m.means n l.weights l.initial.memory) l.initial.memory l.memory
