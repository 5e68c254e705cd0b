use Rattle.std.proofs.Common.{◌-◌, ◌<◌, ◌∷◌, sym, refl, ap, ◌∙◌, arith}
use Rattle.cells.specs.Walks.{ahead}
use Rattle.cells.proofs.Steps.{fits, due_given, trying_next, rest_within, from_end, ahead_next, index_is, place_within}
use Rattle.cells.proofs.halves.Halves.next.Goals as goal

pub returns-then-rest-eq0-clause-is_the_first_ahead_or_none_where_none_is :
    goal.returns-then-rest-eq0-clause-is_the_first_ahead_or_none_where_none_is
unfolding ahead
returns-then-rest-eq0-clause-is_the_first_ahead_or_none_where_none_is c =
    let w = c.args.self.now in
    let none = c.due-rest.ensures.is_what_the_next_half_leaves.0 ∙ from_end w.set w.entrant c.due-rest.result c.if-rest-eq0.true in
    λ f. (w.left f ∙ none, w.left f ∙ none)

pub overflow_add-self : goal.overflow_add-self
overflow_add-self c =
    let w = c.args.self.now in
    let l : 0 < c.due-rest.result = omega arith in
    let g = due_given w.set w.entrant w.others w.wanted w.rest c.due-rest.result c.due-rest.ensures.is_what_the_next_half_leaves l in
    omega (arith, place_within w.set w.entrant w.rest w.place _ _ w.left g)

pub invariant_of-self : goal.invariant_of-self
invariant_of-self c =
    let w = c.args.self.now in
    let r = c.due-rest.result in
    let l : 0 < r = omega arith in
    let g = due_given w.set w.entrant w.others w.wanted w.rest r c.due-rest.ensures.is_what_the_next_half_leaves l in
    record {
      trying = λ _. trying_next w.set w.entrant w.others w.wanted r (c.due-rest.ensures.is_what_the_next_half_leaves.1 l).0;
      left = ahead_next w.set w.entrant w.rest w.place _ _ w.left g;
    }

pub returns-clause-is_the_first_ahead_or_none_where_none_is :
    goal.returns-clause-is_the_first_ahead_or_none_where_none_is
unfolding ahead
returns-clause-is_the_first_ahead_or_none_where_none_is c =
    let w = c.args.self.now in
    let r = c.due-rest.result in
    let g = due_given w.set w.entrant w.others w.wanted w.rest r c.due-rest.ensures.is_what_the_next_half_leaves (omega arith) in
    λ f. w.left f ∙ g ∙ ap (λ xs. (w.set - r) ∷ xs) (sym (ahead_next w.set w.entrant w.rest w.place _ _ w.left g f))

pub returns-clause-place_is_its_index_among_the_halves : goal.returns-clause-place_is_its_index_among_the_halves
returns-clause-place_is_its_index_among_the_halves c =
    let w = c.args.self.now in
    let g = due_given w.set w.entrant w.others w.wanted w.rest c.due-rest.result c.due-rest.ensures.is_what_the_next_half_leaves (omega arith) in
    (refl, refl, index_is w.set w.entrant w.rest w.place _ _ w.left g)

pub returns-clause-is_a_half_that_holds_the_entrant_with_its_rest :
    goal.returns-clause-is_a_half_that_holds_the_entrant_with_its_rest
returns-clause-is_a_half_that_holds_the_entrant_with_its_rest c =
    let w = c.args.self.now in
    let r = c.due-rest.result in
    let d = c.due-rest.ensures.is_what_the_next_half_leaves.1 (omega arith) in
    let in-set = rest_within w.set w.entrant w.others w.wanted r d.0 in
    (fits w.set w.entrant w.others w.wanted r d.0 d.1, omega arith)
