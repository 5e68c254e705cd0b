use Rattle.std.proofs.Common.{◌++◌, codes, decimal, sym, ap, ◌∙◌, append_assoc, rules}
use borrow.Author.Tests.{tests}
use Rattle.reports.specs.Winners.{spaced}
use Rattle.figures.specs.Sets.{all_members}
use Rattle.reports.proofs.Listing.{spaced_last, walked}
use Rattle.reports.proofs.winners.winners_line.Goals as goal

-- the next member is the last one so far
pub loop-entrant-preserved : goal.loop-entrant-preserved
loop-entrant-preserved c =
    let next = codes " " ++ decimal c.in-Some.entrant in
    c.in_ok-write.ensures.bytes ∙ ap (λ line. line ++ next) c.loop-entrant.invariant
    ∙ append_assoc (codes "winners:") (spaced c.loop-entrant.yielded) next ∙ ap (λ es. codes "winners:" ++ es) (sym (spaced_last c.loop-entrant.yielded c.in-Some.entrant))

-- the walk gave the members up to the first who is not in the field
pub returns : goal.returns
returns c =
    let begun = c.into_iter-entrant-iterator.ensures.into_iter_gives in
    let source = ap (λ s. all_members s.iter.left) begun ∙ ap (λ m. all_members m.left) c.take_while-entrant-items.ensures.source ∙ ap all_members c.of.ensures.all_are_to_come in
    let callee = ap (λ s. s.p) begun ∙ c.take_while-entrant-items.ensures.closure in
    let open_yet = ap (λ s. s.done) begun ∙ c.take_while-entrant-items.ensures.done in
    let members = walked _ _ _ c.loop-entrant.yielded c.loop-entrant.yielded_by c.in-None.is c.next.ensures.steps c.args.winners c.args.n _ source callee open_yet (λ e b q k. search (rules, tests)) in
    record { lists_the_members_rising = c.loop-entrant.invariant ∙ ap (λ es. codes "winners:" ++ spaced es) members }
