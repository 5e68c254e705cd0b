use Rattle.std.proofs.Common.{◌+◌, ◌*◌, sym, arith}
use Rattle.std.proofs.lemmas.List.{get_or-map}
use Rattle.facts.proofs.Refusing.{legal_some}
use Rattle.cells.specs.Renewal.{weight_of}
use Rattle.cells.proofs.refresh.Below.weight.Goals as goal

pub returns : goal.returns
unfolding weight_of
returns g c =
    let m = g.V.Algebra in
    let below = c.args.self.now in
    let few = legal_some below.size.entrants below.size.legal in
    record { means_that_weight = sym (get_or-map m.means below.weights.now (c.args.winner * 16 + c.args.loser) c.index-self-winner.result m.semiring.nothing (omega arith)) }
