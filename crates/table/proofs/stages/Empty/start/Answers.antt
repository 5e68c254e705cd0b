use Rattle.std.proofs.Common.{◌≤◌, length, rules}
use Rattle.cells.specs.Rooms.{needed}
use Rattle.table.proofs.Rising.{started}
use Rattle.table.proofs.Roomy.{some}
use Rattle.table.proofs.stages.Empty.start.Goals as goal

pub returns-clause-cells_that_were_nothing_have_their_first_level :
    goal.returns-clause-cells_that_were_nothing_have_their_first_level
returns-clause-cells_that_were_nothing_have_their_first_level g c =
    λ f e _ blank.
    let m = g.V.Algebra in
    let size = c.args.self.size in
    let before = c.args.cells.now.memory.now in
    let room : needed size.entrants ≤ length before = search rules in
    started m.semiring g.met.V.Algebra.lawful m.means f size.entrants before c.seat_singles.new.memory e (some size) room blank c.seat_singles.ensures.seats_those_alone
