use Rattle.std.proofs.Common.{◌≡◌, List, map, length, Bor, ap, ◌∙◌, rules}
use Rattle.std.proofs.lemmas.Fn.{fold_over, slice_gives, fronts}
use Rattle.facts.proofs.Refusing.{answered_then}
use Rattle.figures.specs.Figures.{figure}
use Rattle.figures.specs.Sums.{over}
use Rattle.cells.specs.Renewal.{cell_of}
use Rattle.cells.specs.Rooms.{room_refusal}
use Rattle.table.specs.Questions.{OfAll, tally_of}
use Rattle.table.proofs.Asked.{final_tally}
use Rattle.table.proofs.Rows.{one_added, all_added}
use Rattle.table.proofs.stages.Complete.tally.Goals as goal

pub returns : goal.returns
unfolding over
returns g c =
    let m = g.V.Algebra in
    let A = m.semiring in
    let n = c.args.self.now.size.entrants in
    let xs = c.args.cells.now.memory.now in
    let told = answered_then (λ (row : Bor (List g.row.V.Denot)). OfAll A m.means n xs row.now) (room_refusal n (length xs)) c.in_ok-all.all c.in_ok-all.ensures.are_those_of_all_or_the_memory_is_too_short in
    let added = fold_over fronts (λ y. y.now) _ (λ ys v. m.means v ≡ over A ys m.means) _
    (λ ys a x b f' j k. let is : m.means b ≡ A.plus (m.means a) (m.means x.now) = search rules in (one_added A m.means g.met.V.Algebra.lawful a b x.now ys is j, search rules))
    _ _ _ _ (slice_gives c.iter.result) (search rules) c.fold.ensures.ran in
    let is : m.means c.fold.result ≡ tally_of A n (cell_of A n (map m.means xs)) =
    added ∙ ap (λ zs. over A zs m.means) c.iter.ensures.rest ∙ all_added A m.means n xs c.in_ok-all.all.now told.1 in
    record {
      means_the_sum_of_all_cells_or_is_the_refusal = search rules;
      on_a_table_in_order_means_the_sum_of_all_figures = λ f e p.
          let sum : m.means c.fold.result ≡ tally_of A f.size (figure A f) = is ∙ final_tally A f n (map m.means xs) e p in
          search rules;
      changes_nothing = search rules;
      stays_over_that_memory = search rules;
    }
