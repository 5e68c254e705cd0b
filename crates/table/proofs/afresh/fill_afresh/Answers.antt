use Rattle.std.proofs.Common.{ℕ, ◌+◌, map, length, sym, ap, ◌∙◌, arith}
use lib.Count.{count_trailing_zeros}
use Rattle.facts.specs.declared.sizes.FieldSize.{FieldSize}
use Rattle.facts.proofs.Refusing.{changed_so, changed_then, answered_then, handed_then, handed_back, not_both}
use Rattle.figures.specs.Fields.{field_of}
use Rattle.table.proofs.Opened.{first_level_stands, level_added, level_left, none_left, room_free, fill_free, finish_free}
use Rattle.table.proofs.Roomy.{some}
use Rattle.table.proofs.afresh.fill_afresh.Goals as goal

pub loop-init : goal.loop-init
loop-init g c =
    let m = g.V.Algebra in
    let f = field_of (g.S.MatchSource.sheet c.args.source.now) in
    let n = c.size-n.result in
    let xs = c.args.cells.now.memory.now in
    let ys = c.begin.new.cells.memory.now in
    let opened = answered_then _ _ c.in_ok-stage.stage c.in_ok-stage.ensures.is_at_level_nought_or_the_first_refusal in
    let begun = changed_then _ xs ys _ opened.0 c.in_ok-stage.ensures.has_the_first_level_of_every_field_or_changes_nothing in
    let stage = c.in_ok-stage.stage in
    let stands = first_level_stands m.semiring m.means f stage.size.entrants stage.level n xs ys opened.1.0 opened.1.1 c.size-n.ensures.is_the_size_of_the_field opened.0 begun in
    record {
      level_counted = opened.1.1;
      under_way = stands;
      same_memory = c.in_ok-stage.ensures.stays_over_that_memory;
    }

-- every level below the last can be filled
pub returns-in_err-stage-2 : goal.returns-in_err-stage-2
returns-in_err-stage-2 g c =
    let f = field_of (g.S.MatchSource.sheet c.args.source.now) in
    let u = c.loop.invariant.under_way in
    let legal = (g.met.S.MatchSource.lawful c.args.source.now).size_legal in
    let left = level_left f.size c.loop.stage.level legal (omega (arith, c.loop-test.true, c.loop.invariant.level_counted, ap (count_trailing_zeros 64) c.size-n.ensures.is_the_size_of_the_field)) in
    absurd (not_both _ c.in_err-stage-2.field-0.0.refusal
    (fill_free c.loop.stage.size.entrants c.loop.stage.level f.size (length c.loop.cells.memory.now) u.same_size (omega (arith, u.room, u.tail.0)) left)
    (handed_back _ _ _ c.in_err-stage-2.field-0.0 c.in_err-stage-2.ensures.moves_to_the_next_level_or_hands_the_stage_back))

pub loop-preserved : goal.loop-preserved
loop-preserved g c =
    let m = g.V.Algebra in
    let f = field_of (g.S.MatchSource.sheet c.args.source.now) in
    let i = c.loop.invariant in
    let stage = c.loop.stage in
    let before = c.loop.cells.memory.now in
    let after = c.fill.new.cells.memory.now in
    let moved = handed_then _ _ _ c.in_ok-stage-2.stage c.in_ok-stage-2.ensures.moves_to_the_next_level_or_hands_the_stage_back in
    let next = c.in_ok-stage-2.stage in
    let added = level_added m.semiring m.means f stage.size.entrants stage.level next.size.entrants next.level _ c.args.cells.now.memory.now before after (ap (λ (s : FieldSize). s.entrants) moved.1.0) moved.1.1 (omega (arith, i.under_way.same_size, some stage.size))
    (changed_then _ before after _ moved.0 c.in_ok-stage-2.ensures.fills_that_level_alone_or_changes_nothing) (c.in_ok-stage-2.ensures.levels_that_mean_their_figures_gain_one moved.0 i.under_way.figures_so_far) i.under_way in
    record {
      level_counted = moved.1.1 ∙ ap (λ (k : ℕ). k + 1) i.level_counted;
      under_way = added;
      same_memory = c.in_ok-stage-2.ensures.stays_over_that_memory ∙ i.same_memory;
    }

-- after the last level the table can be finished
pub returns-in_err-finish : goal.returns-in_err-finish
returns-in_err-finish g c =
    let f = field_of (g.S.MatchSource.sheet c.args.source.now) in
    let u = c.loop.invariant.under_way in
    let legal = (g.met.S.MatchSource.lawful c.args.source.now).size_legal in
    let none = none_left f.size c.loop.stage.level legal (omega (arith, c.loop-test.false, c.loop.invariant.level_counted, ap (count_trailing_zeros 64) c.size-n.ensures.is_the_size_of_the_field)) in
    absurd (not_both _ c.in_err-finish.field-0.0.refusal (finish_free c.loop.stage.size.entrants c.loop.stage.level (omega (arith, none, u.same_size)))
    (handed_back _ _ _ c.in_err-finish.field-0.0 c.in_err-finish.ensures.completes_the_table_or_hands_the_stage_back))

pub returns-clause-every_needed_cell_means_its_figure_or_nothing_changed :
    goal.returns-clause-every_needed_cell_means_its_figure_or_nothing_changed
returns-clause-every_needed_cell_means_its_figure_or_nothing_changed g c =
    let m = g.V.Algebra in
    let f = field_of (g.S.MatchSource.sheet c.args.source.now) in
    let u = c.loop.invariant.under_way in
    let xs = c.args.cells.now.memory.now in
    let after = c.loop.cells.memory.now in
    let done = handed_then _ _ _ c.in_ok-finish.field-0 c.in_ok-finish.ensures.completes_the_table_or_hands_the_stage_back in
    changed_so _ xs after _ (room_free f.size (length xs) u.room) (
      c.in_ok-finish.ensures.all_levels_that_mean_their_figures_are_a_table_in_order f (map m.means after) (sym u.same_size) done.0 u.figures_so_far,
      u.tail,
    )
