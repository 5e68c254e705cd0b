use Rattle.std.proofs.Common.{◌+◌, ◌*◌, map}
use Rattle.figures.specs.Fields.{field_of}
use Rattle.cells.specs.Asking.{WeighedBelow}
use Rattle.cells.proofs.grid.level_grid.Given as goal

abbrev pub invariant-loop-a : goal.invariant-loop-a
invariant-loop-a g l = WeighedBelow g.V.Algebra.semiring (field_of (g.S.MatchSource.sheet l.source)) (map g.V.Algebra.means l.grid) (l.a * 16 + l.a)
