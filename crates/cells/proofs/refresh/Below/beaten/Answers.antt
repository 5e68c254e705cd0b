use Rattle.std.proofs.Common.{ℕ, ◌<◌, [], ◌∷◌, map, sym, ap, ◌∙◌, ap₂, arith}
use Rattle.facts.proofs.Refusing.{legal_some}
use Rattle.figures.specs.Sums.{over}
use Rattle.figures.proofs.Sums.{over_append, plus_nothing_r}
use Rattle.figures.proofs.Members.{is_entrant, given_all, all_within}
use Rattle.cells.specs.Renewal.{cell_of, weight_of}
use Rattle.cells.specs.Splits.{of_size, lost_to}
use Rattle.cells.proofs.refresh.Below.beaten.Given as given
use Rattle.cells.proofs.refresh.Below.beaten.Goals as goal
use Rattle.cells.proofs.refresh.Below.beaten.Goals.{In-Some}

pub loop-loser-init : goal.loop-loser-init
unfolding over
loop-loser-init g c = c.nothing-sum.ensures.means_nothing

-- whoever may come out of the rest is an entrant
entrant : (g : given.Over) (c : In-Some g) → c.in-Some.loser < c.args.self.now.size.entrants
entrant g c =
    let size = c.args.self.now.size in
    let few = (legal_some size.entrants size.legal).1 in
    is_entrant c.args.rest _ _ _ _ c.of-loser-items.ensures.all_are_to_come c.into_iter-loser-iterator.ensures.into_iter_gives c.loop-loser.yielded_by c.in-Some.loser _ c.in-Some.ensures.steps size.entrants (omega arith) c.requires.is_a_set

pub cell-requires-clause-is_an_entrant : goal.cell-requires-clause-is_an_entrant
cell-requires-clause-is_an_entrant g c = entrant g (goal.at.cell-requires-clause-is_an_entrant g c).In-Some

pub weight-requires-clause-is_another : goal.weight-requires-clause-is_another
weight-requires-clause-is_another g c = entrant g (goal.at.weight-requires-clause-is_another g c).In-Some

pub loop-loser-preserved : goal.loop-loser-preserved
unfolding over
loop-loser-preserved g c =
    let m = g.V.Algebra in
    let A = m.semiring in
    let below = c.args.self.now in
    let term : ℕ → m.Meaning = λ b. A.times (cell_of A below.size.entrants (map m.means below.cells.now) c.args.rest b) (weight_of A (map m.means below.weights.now) c.args.winner b) in
    c.plus-sum.ensures.means_the_sum
    ∙ ap₂ A.plus c.loop-loser.invariant (c.times.ensures.means_the_product ∙ ap₂ A.times c.cell.ensures.means_that_cell c.weight.ensures.means_that_weight ∙ sym (plus_nothing_r A g.met.V.Algebra.lawful (term c.in-Some.loser)))
    ∙ sym (over_append A g.met.V.Algebra.lawful c.loop-loser.yielded (c.in-Some.loser ∷ []) term)

pub returns : goal.returns
unfolding lost_to
returns g c =
    let m = g.V.Algebra in
    let A = m.semiring in
    let below = c.args.self.now in
    let n = below.size.entrants in
    let few = (legal_some n below.size.legal).1 in
    let all = given_all c.args.rest _ _ _ _ c.of-loser-items.ensures.all_are_to_come c.into_iter-loser-iterator.ensures.into_iter_gives c.loop-loser.yielded_by c.in-None.ensures.steps.0 in
    let term : ℕ → m.Meaning = λ b. A.times (cell_of A n (map m.means below.cells.now) c.args.rest b) (weight_of A (map m.means below.weights.now) c.args.winner b) in
    record { is_the_sum_over_the_losers = c.loop-loser.invariant ∙ ap (λ bs. over A bs term) (all ∙ all_within (of_size n) c.args.rest (omega arith) c.requires.is_a_set) }
