use Rattle.std.proofs.Common.{ℕ, map, length, sym, ◌∙◌, subst}
use Rattle.facts.proofs.Refusing.{legal_some, changed_so, changed_then, answered_then, handed_then}
use Rattle.cells.specs.Renewal.{Renewal}
use Rattle.cells.specs.Rooms.{needed}
use Rattle.table.specs.Singles.{of_singles}
use Rattle.table.specs.Fillings.{Blank}
use Rattle.table.proofs.Opened.{open_room, tail_kept}
use Rattle.table.proofs.afresh.begin.Goals as goal

pub returns-clause-has_the_first_level_of_every_field_or_changes_nothing :
    goal.returns-clause-has_the_first_level_of_every_field_or_changes_nothing
returns-clause-has_the_first_level_of_every_field_or_changes_nothing g c =
    let m = g.V.Algebra in
    let n = c.args.n in
    let xs = c.args.cells.now.memory.now in
    let ys = c.open.new.cells.memory.now in
    let zs = c.start.new.cells.memory.now in
    let opened = answered_then _ _ c.in_ok-empty.empty c.in_ok-empty.ensures.is_of_that_size_or_the_first_refusal in
    let room = open_room n (length xs) opened.0 in
    let cleared = changed_then _ xs ys _ opened.0 c.in_ok-empty.ensures.clears_the_needed_cells_or_changes_nothing in
    let started = handed_then _ _ _ c.in_ok-start.field-0 c.in_ok-start.ensures.moves_to_level_nought_or_hands_the_stage_back in
    let seated = subst (λ (k : ℕ). Renewal m.semiring m.means k (of_singles k) (λ _ _. m.semiring.one) ys zs) opened.1 (changed_then _ ys zs _ started.0 c.in_ok-start.ensures.seats_the_single_entrants_or_changes_nothing) in
    changed_so _ xs zs _ opened.0 (
      (λ f e. c.in_ok-start.ensures.cells_that_were_nothing_have_their_first_level f (e ∙ sym opened.1) started.0 (subst (λ (k : ℕ). Blank m.semiring (needed k) (map m.means ys)) (sym opened.1) cleared.cleared)),
      tail_kept m.semiring m.means n xs ys zs (legal_some n room.0).0 cleared seated,
    )
