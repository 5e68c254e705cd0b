use Rattle.std.proofs.Common.{ℕ, ◌-◌, ◌<◌, map, length, sym, refl, ap, ◌∙◌, subst, ap₂, arith, length-set, rules}
use lib.Count.{count_trailing_zeros}
use Rattle.std.proofs.lemmas.List.{get_or-map}
use Rattle.facts.proofs.Refusing.{legal_some}
use Rattle.figures.specs.Lists.{In}
use Rattle.figures.proofs.Members.{is_entrant, is_new, given_all, every_member, lowest_in}
use Rattle.cells.specs.Walks.{ahead}
use Rattle.cells.specs.Renewal.{cell_of, weight_of}
use Rattle.cells.specs.Splits.{of_size, won_of_split}
use Rattle.cells.specs.declared.halves.Halves.{Halves}
use Rattle.cells.proofs.Piling.{along_none, along_more, along_all, piled_more, at_most, next_at, none_at}
use Rattle.cells.proofs.refresh.Below.sums_of.Given as given
use Rattle.cells.proofs.refresh.Below.sums_of.Goals as goal
use Rattle.cells.proofs.refresh.Below.sums_of.Goals.{In-Some-winner}

-- ---- every split

pub loop-half-init : goal.loop-half-init
loop-half-init g c =
    let m = g.V.Algebra in
    let below = c.args.self.now in
    let n = below.size.entrants in
    let s = c.args.set in
    let first : ℕ = count_trailing_zeros 32 s in
    let walk = c.into_iter-half-iterator.ensures.into_iter_gives in
    let own = c.of-half-items.ensures.is_of_that_set_and_entrant in (
      refl,
      ap (λ (h : Halves). h.set) walk ∙ own.0,
      ap (λ (h : Halves). h.entrant) walk ∙ own.1,
      along_none m.semiring g.met.V.Algebra.lawful m.means (weight_of m.semiring (map m.means below.weights.now)) n (cell_of m.semiring n (map m.means below.cells.now)) s
          first c.nothing-sums.result _ (λ w h. lowest_in s w (omega arith) h) c.nothing-sums.ensures.means_nothing
          (ap (λ (h : Halves). ahead (of_size n) s first h.place) walk ∙ c.of-half-items.ensures.all_halves_are_ahead (of_size n)),
    )

pub loop-half-preserved : goal.loop-half-preserved
loop-half-preserved g c =
    let m = g.V.Algebra in
    let below = c.args.self.now in
    let n = below.size.entrants in
    let s = c.args.set in
    let few = (legal_some n below.size.legal).1 in
    let half = c.in-Some.half in
    let walk = c.loop-half.half-iterator in
    let i = c.loop-half.invariant in
    let step = c.in-Some.ensures.steps in
    let all = given_all s _ _ _ _ c.of-winner-items.ensures.all_are_to_come c.into_iter-winner-iterator.ensures.into_iter_gives c.loop-winner.yielded_by c.in-None-winner.ensures.steps.0 in (
      c.loop-winner.invariant.0,
      step.1 ∙ i.1,
      step.2 ∙ i.2,
      along_more m.semiring g.met.V.Algebra.lawful m.means (weight_of m.semiring (map m.means below.weights.now)) n (cell_of m.semiring n (map m.means below.cells.now)) s
          half.set half.rest c.loop-winner.yielded c.loop-half.sums c.loop-winner.sums _ _
          (λ w h. subst (In w) (sym all) (every_member n s w (omega arith) c.requires.is_a_set h).1)
          (step.0.2.1 ∙ ap (λ (x : ℕ). x - half.set) i.1)
          (next_at (of_size n) walk.set s walk.entrant _ walk.place _ half.set i.1 i.2 (step.0.0 (of_size n)))
          i.3 c.loop-winner.invariant.1,
    )

-- ---- every winner

-- he is an entrant, and so one of sixteen
entrant : (g : given.Over) (c : In-Some-winner g) → (c.in-Some-winner.winner < c.args.self.now.size.entrants) × (c.in-Some-winner.winner < 16)
entrant g c =
    let size = c.args.self.now.size in
    let few = (legal_some size.entrants size.legal).1 in
    let l = is_entrant c.args.set _ _ _ _ c.of-winner-items.ensures.all_are_to_come c.into_iter-winner-iterator.ensures.into_iter_gives c.loop-winner.yielded_by c.in-Some-winner.winner _ c.in-Some-winner.ensures.steps size.entrants (omega arith) c.requires.is_a_set in
    (l, omega arith)

pub offset_bounds-sums-winner : goal.offset_bounds-sums-winner
offset_bounds-sums-winner g c =
    let few : c.in-Some-winner.winner < 16 = (entrant g (goal.at.offset_bounds-sums-winner g c).In-Some-winner).1 in
    search rules

pub listed : goal.listed
listed g c =
    let few = (entrant g (goal.at.listed g c).In-Some-winner).1 in
    omega (arith, c.loop-winner.invariant.0)

pub bounds-sums-winner : goal.bounds-sums-winner
bounds-sums-winner g c = (entrant g (goal.at.bounds-sums-winner g c).In-Some-winner).1

pub win_of_split-requires-clause-half_is_a_set : goal.win_of_split-requires-clause-half_is_a_set
win_of_split-requires-clause-half_is_a_set g c =
    let walk = c.loop-half.half-iterator in
    omega (arith, at_most walk.set c.args.set walk.entrant c.in-Some.half.set c.loop-half.invariant.1 c.in-Some.ensures.steps.0.2.0, c.requires.is_a_set)

pub win_of_split-requires-clause-is_an_entrant : goal.win_of_split-requires-clause-is_an_entrant
win_of_split-requires-clause-is_an_entrant g c = (entrant g (goal.at.win_of_split-requires-clause-is_an_entrant g c).In-Some-winner).0

pub offset_bounds-sums-winner-in-loop-winner : goal.offset_bounds-sums-winner-in-loop-winner
offset_bounds-sums-winner-in-loop-winner g c =
    let few : c.in-Some-winner.winner < 16 = (entrant g (goal.at.offset_bounds-sums-winner-in-loop-winner g c).In-Some-winner).1 in
    search rules

pub listed-in-loop-winner : goal.listed-in-loop-winner
listed-in-loop-winner g c =
    let few = (entrant g (goal.at.listed-in-loop-winner g c).In-Some-winner).1 in
    omega (arith, c.loop-winner.invariant.0)

pub bounds-sums-winner-in-loop-winner : goal.bounds-sums-winner-in-loop-winner
bounds-sums-winner-in-loop-winner g c = (entrant g (goal.at.bounds-sums-winner-in-loop-winner g c).In-Some-winner).1

pub loop-winner-preserved : goal.loop-winner-preserved
loop-winner-preserved g c =
    let m = g.V.Algebra in
    let A = m.semiring in
    let below = c.args.self.now in
    let n = below.size.entrants in
    let w = c.in-Some-winner.winner in
    let sums = c.loop-winner.sums in
    let new = is_new c.args.set _ _ _ _ c.of-winner-items.ensures.all_are_to_come c.into_iter-winner-iterator.ensures.into_iter_gives c.loop-winner.yielded_by w _ c.in-Some-winner.ensures.steps in
    let k : w < length sums = omega (arith, c.loop-winner.invariant.0, (entrant g (goal.at.loop-winner-preserved g c).In-Some-winner).1) in (
      length-set sums w c.plus.result ∙ c.loop-winner.invariant.0,
      piled_more A m.means (won_of_split A (weight_of A (map m.means below.weights.now)) n (cell_of A n (map m.means below.cells.now)) c.in-Some.half.set c.in-Some.half.rest)
          c.loop-half.sums c.loop-winner.yielded w c.plus.result sums new k c.loop-winner.invariant.1
          (c.plus.ensures.means_the_sum ∙ ap₂ A.plus (sym (get_or-map m.means sums w c.index-sums-winner.result A.nothing k)) c.win_of_split.ensures.is_what_his_side_gives),
    )

pub returns-clause-are_the_sums_of_the_members : goal.returns-clause-are_the_sums_of_the_members
returns-clause-are_the_sums_of_the_members g c =
    let m = g.V.Algebra in
    let A = m.semiring in
    let below = c.args.self.now in
    let n = below.size.entrants in
    let s = c.args.set in
    let walk = c.loop-half.half-iterator in
    let i = c.loop-half.invariant in
    let ends = none_at (of_size n) walk.set s walk.entrant _ walk.place i.1 i.2 (c.in-None.ensures.steps.0.0 (of_size n)).0 in
    λ w h. along_all A g.met.V.Algebra.lawful m.means (weight_of A (map m.means below.weights.now)) n (cell_of A n (map m.means below.cells.now)) s c.loop-half.sums _ ends i.3 w h
