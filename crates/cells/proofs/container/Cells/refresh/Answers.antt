use Rattle.std.proofs.Common.{◌≡◌, ℕ, ◌+◌, ◌*◌, ◌%◌, ◌^◌, ◌<◌, map, length, sym, ap, ◌∙◌, subst, arith}
use Rattle.std.proofs.lemmas.Nat.{shl_whole}
use Rattle.facts.specs.declared.sizes.FieldSize.{FieldSize}
use Rattle.facts.specs.Refusals.{size_refusal}
use Rattle.facts.proofs.Refusing.{passed, answered_then, changed_so}
use Rattle.figures.specs.Fields.{field_of}
use Rattle.figures.specs.Figures.{by_halves}
use Rattle.cells.specs.Renewal.{Renewal, cell_of, of_level}
use Rattle.cells.specs.Rooms.{refresh_refusal}
use Rattle.cells.proofs.Doubling.{twice}
use Rattle.cells.proofs.Fitting.{admitted}
use Rattle.cells.proofs.container.Cells.refresh.Goals as goal

-- twice as many as a level has, as the code has it
doubled : (level : ℕ) → level < 4 → (2 * 2 ^ level) % 2 ^ 32 ≡ 2 ^ (level + 1)
doubled level small = shl_whole 2 2 level 32 (omega arith) (omega arith) ∙ sym (twice level)

pub overflow_shl-level : goal.overflow_shl-level
overflow_shl-level g c =
    let size = c.in_ok-size.size in
    let a = admitted size.entrants _ c.args.level size.legal (sym (passed _ c.in_ok-check_refresh.ensures.refuses_by_the_first_reason)) in
    omega (arith, a.small)

pub returns-clause-renews_those_cells_alone_or_changes_nothing :
    goal.returns-clause-renews_those_cells_alone_or_changes_nothing
returns-clause-renews_those_cells_alone_or_changes_nothing g c =
    let m = g.V.Algebra in
    let f = field_of (g.S.MatchSource.sheet c.args.source.now) in
    let level = c.args.level in
    let must = c.args.must in
    let size = c.in_ok-size.size in
    let before = c.args.self.now.memory.now in
    let after = c.refresh_level.new.memory in
    let sized : size.entrants ≡ f.size = (answered_then (λ (s : FieldSize). s.entrants ≡ c.size.result) (size_refusal c.size.result) size c.in_ok-size.ensures).1 ∙ c.size.ensures.is_the_size_of_the_field in
    let none = sym (passed (refresh_refusal size.entrants (length before) level) c.in_ok-check_refresh.ensures.refuses_by_the_first_reason) in
    let a = admitted size.entrants (length before) level size.legal none in
    let P : ℕ → ℕ → Type 0 = λ n z. Renewal m.semiring m.means n (of_level n z must) (by_halves m.semiring f (cell_of m.semiring n (map m.means before))) before after in
    changed_so (Renewal m.semiring m.means f.size (of_level f.size (2 ^ (level + 1)) must) (by_halves m.semiring f (cell_of m.semiring f.size (map m.means before)))) before after _ (ap (λ n. refresh_refusal n (length before) level) (sym sized) ∙ none)
    (subst (λ z. P f.size z) (doubled level a.small) (subst (λ n. P n ((2 * 2 ^ level) % 2 ^ 32)) sized (c.refresh_level.ensures.renews_the_sets_of_that_size_alone f (sym sized) c.level_grid.ensures.weighs_every_win)))
