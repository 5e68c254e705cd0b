use Rattle.std.proofs.Common.{rules, arith}
use Rattle.std.proofs.lemmas.List.{length-take-le}
use Rattle.table.proofs.Blanking.{given_nothing, cleared_front}
use Rattle.table.proofs.clearing.clear.Goals as goal

pub returns : goal.returns
returns g c =
    let m = g.V.Algebra in
    let xs = c.args.memory.now in
    let ys = c.fill_with.new.self in
    let blank = given_nothing m.semiring m.means _ (λ f v f' h. search rules) _ ys _ c.fill_with.ensures.ran.1 in
    record {
      clears_those_alone = cleared_front m.semiring m.means c.args.count xs ys c.requires (omega (arith, length-take-le {A = g.row.V.Denot}, c.fill_with.ensures.len)) blank;
    }
