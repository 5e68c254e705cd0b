use Rattle.sources.specs.Holding.{accepted, told_amended}
use Rattle.sources.proofs.square.SquareMatchSource.amend.Goals as goal

pub returns-clause-accepted_puts_the_pairing_in : goal.returns-clause-accepted_puts_the_pairing_in
returns-clause-accepted_puts_the_pairing_in g c none =
    let k = g.K.Kept in
    let s = c.args.self.now in
    let facts = c.args.facts in
    let met = accepted s.size.entrants c.args.a c.args.b facts (k.carried c.args.a c.args.b facts.0 facts.1) none in
    told_amended k.told k.carried s.size.entrants s.kept c.args.a c.args.b c.place_of.result facts c.of.result s.whole s.size.legal met.0 c.place_of.ensures.0 c.of.ensures.tells_them_again
