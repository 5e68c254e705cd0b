use Rattle.cells.specs.Renewal.{Renewal}
use Rattle.table.specs.Singles.{of_singles}
use Rattle.table.proofs.singles.seat_singles.Given as goal

abbrev pub invariant-loop-entrant : goal.invariant-loop-entrant
invariant-loop-entrant g l =
    let m = g.V.Algebra in
    Renewal m.semiring m.means l.n (of_singles l.entrant) (λ _ _. m.semiring.one) l.initial.memory l.memory
