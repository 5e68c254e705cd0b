use Rattle.std.proofs.Common.{sym, ◌∙◌}
use Rattle.cells.proofs.Weights.{nobody_himself}
use Rattle.cells.proofs.grid.weights_of.Goals as goal

pub returns-then-a-b : goal.returns-then-a-b
returns-then-a-b g c =
    let sheet = g.S.MatchSource.sheet c.args.source.now in
    let lawful = g.met.S.MatchSource.lawful c.args.source.now in
    let weightless = nobody_himself g.V.Algebra.semiring g.met.V.Algebra.lawful sheet lawful in
    record {
      forth = c.nothing.ensures.means_nothing ∙ weightless c.args.a c.args.b c.if-a-b.true;
      back = c.nothing-then-a-b.ensures.means_nothing ∙ weightless c.args.b c.args.a (sym c.if-a-b.true);
    }
