use Rattle.std.proofs.Common.{◌≡◌, map, length}
use Rattle.cells.specs.Walks.{ahead}
use Rattle.cells.specs.Renewal.{cell_of, weight_of}
use Rattle.cells.specs.Splits.{of_size, won_of_split}
use Rattle.cells.proofs.Piling.{Along, Piled}
use Rattle.cells.proofs.refresh.Below.sums_of.Given as goal

-- each member's sum, with what is ahead, is what all splits give
abbrev pub invariant-loop-half : goal.invariant-loop-half
invariant-loop-half g l =
    let m = g.V.Algebra in
    let A = m.semiring in
    let n = l.self.size.entrants in
    (length l.sums ≡ 16) × (l.half-iterator.set ≡ l.set) × (l.half-iterator.entrant ≡ l.first)
    × Along A (weight_of A (map m.means l.self.weights.now)) n (cell_of A n (map m.means l.self.cells.now)) l.set m.means l.sums (ahead (of_size n) l.set l.first l.half-iterator.place)

-- the members so far have what they have of this split besides
abbrev pub invariant-loop-winner : goal.invariant-loop-winner
invariant-loop-winner g l =
    let m = g.V.Algebra in
    let A = m.semiring in
    let n = l.self.size.entrants in
    (length l.sums ≡ 16) × Piled A m.means (won_of_split A (weight_of A (map m.means l.self.weights.now)) n (cell_of A n (map m.means l.self.cells.now)) l.half.set l.half.rest) l.yielded l.initial.sums l.sums
