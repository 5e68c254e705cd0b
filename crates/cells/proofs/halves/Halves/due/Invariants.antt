use Rattle.std.proofs.Common.{◌≡◌, ◌<◌}
use Rattle.cells.specs.Standing.{from, Trying}
use Rattle.cells.proofs.halves.Halves.due.Given as goal

abbrev pub invariant-loop-rest : goal.invariant-loop-rest
invariant-loop-rest l =
    (from l.self.set l.self.entrant l.self.rest ≡ from l.self.set l.self.entrant l.rest)
    × (0 < l.rest → Trying l.self.set l.self.entrant l.self.others l.self.wanted l.rest)

abbrev pub decreases-loop-rest : goal.decreases-loop-rest
decreases-loop-rest l = l.rest
