use Rattle.std.proofs.Common.{◌≡◌}
use Rattle.figures.specs.Fields.{field_of}
use Rattle.table.proofs.Opened.{UnderWay}
use Rattle.table.proofs.afresh.fill_afresh.Given as goal

abbrev pub invariant-loop : goal.invariant-loop
invariant-loop g l =
    record {
      level_counted : l.stage.level ≡ l.counter;
      under_way : UnderWay g.V.Algebra.semiring g.V.Algebra.means (field_of (g.S.MatchSource.sheet l.source)) l.stage.size.entrants l.stage.level l.fn.cells.memory.now l.cells.memory.now;
      same_memory : l.cells.memory.ghost_name ≡ l.fn.cells.memory.ghost_name;
    }
