use Rattle.std.proofs.Common.{◌≡◌, ◌+◌, ◌*◌, map, length}
use Rattle.figures.specs.Fields.{field_of}
use Rattle.cells.specs.Asking.{WeighedBelow}
use Rattle.cells.proofs.grid.ask_row.Given as goal

abbrev pub invariant-loop-b : goal.invariant-loop-b
invariant-loop-b g l = (length l.grid ≡ 256) × WeighedBelow g.V.Algebra.semiring (field_of (g.S.MatchSource.sheet l.source)) (map g.V.Algebra.means l.grid) (l.a * 16 + l.b)
