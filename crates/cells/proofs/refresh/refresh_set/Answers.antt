use Rattle.std.proofs.Common.{◌≡◌, ℕ, ◌+◌, ◌*◌, ◌<◌, length, get_or, set, sym, ap, ◌∙◌, arith, rules}
use Rattle.std.proofs.lemmas.List.{get_or-map}
use Rattle.facts.proofs.Refusing.{legal_some}
use Rattle.figures.specs.Sets.{Member}
use Rattle.figures.proofs.Members.{is_entrant, is_member, given_all}
use Rattle.cells.specs.Rooms.{needed}
use Rattle.cells.specs.Splits.{sum_of}
use Rattle.cells.proofs.Fitting.{index_is}
use Rattle.cells.proofs.Renewing.{put_cell, all_cells, same_after, written}
use Rattle.cells.proofs.refresh.refresh_set.Given as given
use Rattle.cells.proofs.refresh.refresh_set.Goals as goal
use Rattle.cells.proofs.refresh.refresh_set.Goals.{In-Some, After-index_of}

-- a member is an entrant, and so one of sixteen
entrant : (g : given.Over) (c : In-Some g) → Member c.args.set c.in-Some.entrant × (c.in-Some.entrant < c.args.size.entrants) × (c.in-Some.entrant < 16)
entrant g c =
    let size = c.args.size in
    let few = (legal_some size.entrants size.legal).1 in
    let e = c.in-Some.entrant in
    let all = c.of-entrant-items.ensures.all_are_to_come in
    let walk = c.into_iter-entrant-iterator.ensures.into_iter_gives in
    let m = is_member c.args.set _ _ _ _ all walk c.loop-entrant.yielded_by e _ c.in-Some.ensures.steps in
    let l = is_entrant c.args.set _ _ _ _ all walk c.loop-entrant.yielded_by e _ c.in-Some.ensures.steps size.entrants (omega arith) c.requires.is_a_set in
    (m.0, l, omega arith)

-- where his cell is
at_cell : (g : given.Over) (c : After-index_of g) → (c.index_of.result ≡ c.args.set * c.args.size.entrants + c.in-Some.entrant) × (c.index_of.result < needed c.args.size.entrants)
at_cell g c =
    let size = c.args.size in
    let told = c.index_of.ensures in
    index_is _ size.entrants c.args.set c.in-Some.entrant c.index_of.result c.entrants.ensures.is_how_many_there_are size.legal c.requires.is_a_set (entrant g (goal.at.loop-entrant-preserved g c).In-Some).1
    told.is_the_index_of_that_cell told.is_within_the_needed_cells

pub offset_bounds-sums-entrant : goal.offset_bounds-sums-entrant
offset_bounds-sums-entrant g c =
    let few : c.in-Some.entrant < 16 = (entrant g (goal.at.offset_bounds-sums-entrant g c).In-Some).2 in
    search rules

pub listed : goal.listed
listed g c =
    let few = (entrant g (goal.at.listed g c).In-Some).2 in
    omega (arith, c.sums_of-sums.ensures.are_sixteen)

pub bounds-sums-entrant : goal.bounds-sums-entrant
bounds-sums-entrant g c = (entrant g (goal.at.bounds-sums-entrant g c).In-Some).2

pub offset_bounds-memory-index_of : goal.offset_bounds-memory-index_of
offset_bounds-memory-index_of g c =
    let within = (at_cell g (goal.at.offset_bounds-memory-index_of g c).After-index_of).1 in
    let u : c.index_of.result < length c.loop-entrant.memory = omega (arith, c.requires.cells_fit, c.loop-entrant.auto.memory) in
    search rules

pub bounds-memory-index_of : goal.bounds-memory-index_of
bounds-memory-index_of g c =
    let within = (at_cell g (goal.at.bounds-memory-index_of g c).After-index_of).1 in
    omega (arith, c.requires.cells_fit, c.loop-entrant.auto.memory)

pub loop-entrant-preserved : goal.loop-entrant-preserved
loop-entrant-preserved g c =
    let m = g.V.Algebra in
    let A = m.semiring in
    let n = c.args.size.entrants in
    let some = (legal_some n c.args.size.legal).0 in
    let s = c.args.set in
    let w = c.in-Some.entrant in
    let grid = c.args.weights.now in
    let xs = c.args.memory.now in
    let ys = c.loop-entrant.memory in
    let sums = c.sums_of-sums.result in
    let v = get_or sums w c.index-sums-entrant.result in
    let e = entrant g (goal.at.loop-entrant-preserved g c).In-Some in
    let few = e.2 in
    let is = at_cell g c in
    let k : w < length sums = omega (arith, c.sums_of-sums.ensures.are_sixteen) in
    let u : s * n + w < length ys = omega (arith, is.0, is.1, c.requires.cells_fit, c.loop-entrant.auto.memory) in
    same_after A m.means n some grid (written s _) (sum_of A m.means n grid xs) xs (set ys (s * n + w) v) _ (ap (λ (x : ℕ). set ys x v) is.0)
    (put_cell A m.means n some grid s w c.loop-entrant.yielded v xs ys e.1 u c.loop-entrant.invariant
    (sym (get_or-map m.means sums w c.index-sums-entrant.result A.nothing k) ∙ c.sums_of-sums.ensures.are_the_sums_of_the_members w e.0))

pub returns : goal.returns
returns g c =
    let m = g.V.Algebra in
    let size = c.args.size in
    let p = legal_some size.entrants size.legal in
    let all = given_all c.args.set _ _ _ _ c.of-entrant-items.ensures.all_are_to_come c.into_iter-entrant-iterator.ensures.into_iter_gives c.loop-entrant.yielded_by c.in-None.ensures.steps.0 in
    record {
      each_member_has_his_sum_and_no_other_cell_changes = all_cells m.semiring m.means size.entrants p.0 c.args.weights.now c.args.set c.loop-entrant.yielded c.args.memory.now c.loop-entrant.memory (omega (arith, p.1)) c.requires.is_a_set all c.loop-entrant.invariant;
    }
