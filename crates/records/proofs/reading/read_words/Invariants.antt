use Rattle.std.proofs.Common.{length}
use Rattle.std.specs.Option.{option_map}
use Rattle.figures.specs.Fields.{field_of}
use Rattle.records.proofs.Turning.{Stand}
use Rattle.records.proofs.reading.read_words.Given as goal

abbrev pub invariant-loop-rest : goal.invariant-loop-rest
invariant-loop-rest g l =
    Stand g.V.Algebra.semiring (field_of (g.S.MatchSource.sheet l.source)) l.words l.parts l.seen (option_map g.V.Algebra.means l.weight) l.rest

abbrev pub decreases-loop-rest : goal.decreases-loop-rest
decreases-loop-rest g l = length l.rest
