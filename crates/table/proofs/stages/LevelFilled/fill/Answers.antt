use Rattle.std.proofs.Common.{◌≡◌, ℕ, ◌+◌, ◌^◌, map, length, sym, subst, arith}
use Rattle.facts.proofs.Refusing.{changed_then}
use Rattle.figures.specs.Fields.{field_of}
use Rattle.figures.specs.Figures.{by_halves}
use Rattle.cells.specs.Renewal.{Renewal, cell_of, of_level}
use Rattle.table.proofs.Rising.{one_more_level}
use Rattle.table.proofs.Roomy.{some, let_through, let_on, level_low}
use Rattle.table.proofs.stages.LevelFilled.fill.Goals as goal

pub overflow_add-result : goal.overflow_add-result
overflow_add-result g c =
    let size = c.args.self.size in
    let level = c.args.self.level in
    omega (arith, level_low size (level + 1) (let_on size _ _ level _ (omega arith) c.refresh.ensures.answers_by_the_first_refusal c.in_ok-map_err.ensures.variant).1)

pub invariant_of-result : goal.invariant_of-result
invariant_of-result g c =
    record { within = (let_on c.args.self.size _ _ c.args.self.level _ (omega arith) c.refresh.ensures.answers_by_the_first_refusal c.in_ok-map_err.ensures.variant).1 }

pub returns-clause-levels_that_mean_their_figures_gain_one :
    goal.returns-clause-levels_that_mean_their_figures_gain_one
returns-clause-levels_that_mean_their_figures_gain_one g c =
    let m = g.V.Algebra in
    let f = field_of (g.S.MatchSource.sheet c.args.source.now) in
    let n = c.args.self.size.entrants in
    let level = c.args.self.level in
    let before = c.args.cells.now.memory.now in
    let after = c.refresh.new.self.memory.now in
    let is : f.size ≡ n = omega arith in
    let none = let_through _ _ c.refresh.ensures.answers_by_the_first_refusal c.in_ok-map_err.ensures.variant in
    let fits = (let_on c.args.self.size f.size (length before) level _ is c.refresh.ensures.answers_by_the_first_refusal c.in_ok-map_err.ensures.variant).0 in
    let P : ℕ → Type 0 = λ k. Renewal m.semiring m.means k (of_level k (2 ^ (level + 1)) 0) (by_halves m.semiring f (cell_of m.semiring k (map m.means before))) before after in
    let renewed : P n = subst P is (changed_then _ before after _ (sym none) c.refresh.ensures.renews_those_cells_alone_or_changes_nothing) in
    λ _ p. one_more_level m.semiring g.met.V.Algebra.lawful m.means f n level before after is (some c.args.self.size) fits renewed p
