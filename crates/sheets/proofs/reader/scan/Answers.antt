use Rattle.std.proofs.Common.{◌≡◌, ◌+◌, [], map, length, drop, get_or, Err, Result, sym, ap, ◌∙◌, subst, arith}
use Rattle.std.proofs.lemmas.List.{drop_all}
use Rattle.std.proofs.lemmas.Result.{err_from_is_err_and}
use Rattle.sheets.specs.declared.misread.Misread.{Misread}
use Rattle.sheets.specs.declared.draft.Draft.{Draft}
use Rattle.sheets.specs.Scanning.{Progress, scanned}
use Rattle.sheets.specs.Machine.{word_from, progress_of, Ended}
use Rattle.sheets.proofs.Onward.{rows_open, begun, onward, not_begun, stopped, ended}
use Rattle.sheets.proofs.reader.scan.Goals as goal

pub returns-in_err-reader : goal.returns-in_err-reader
returns-in_err-reader c =
    let p = err_from_is_err_and c.from_residual.result c.from_residual.ensures.1 in
    rw (p.1, p.2) (not_begun (word_from c.args.head.now) (map word_from c.args.rows.now) c.open.result c.in_err-reader.field-0.0 (rw c.word_from.ensures at c.open.ensures) (sym c.in_err-reader.ensures))

pub loop-index-init : goal.loop-index-init
loop-index-init c = begun (word_from c.args.head.now) (map word_from c.args.rows.now) c.open.result c.in_ok-reader.reader (rw c.word_from.ensures at c.open.ensures) (sym c.in_ok-reader.ensures)

pub returns-in_err-at_word : goal.returns-in_err-at_word
returns-in_err-at_word c =
    let p = err_from_is_err_and c.from_residual-in_err-at_word.result c.from_residual-in_err-at_word.ensures.1 in
    let before = progress_of c.loop-index.reader in
    let i = c.loop-index.index in
    let rows = c.args.rows.now in
    let m = c.in_err-at_word.field-0.0 in
    rw (p.1, p.2) (subst (λ (o : Result Progress Misread). Ended o (Err m)) (sym (c.loop-index.invariant ∙ ap (λ ws. scanned before ws (i + 1)) (rows_open rows i c.loop-index-test.true)))
    (stopped before (word_from (get_or rows i [])) (map word_from (drop (i + 1) rows)) (i + 1) c.step.result c.step.new.self m (rw c.word_from-in-loop-index.ensures at c.step.ensures) (sym c.in_err-at_word.ensures)))

pub loop-index-preserved : goal.loop-index-preserved
loop-index-preserved c =
    let before = progress_of c.loop-index.reader in
    let i = c.loop-index.index in
    let rows = c.args.rows.now in
    c.loop-index.invariant ∙ ap (λ ws. scanned before ws (i + 1)) (rows_open rows i c.loop-index-test.true)
    ∙ onward before (word_from (get_or rows i [])) (map word_from (drop (i + 1) rows)) (i + 1) c.step.result c.step.new.self tt (rw c.word_from-in-loop-index.ensures at c.step.ensures) (sym c.in_ok-at_word.ensures)

pub returns : goal.returns
returns c =
    let end = progress_of c.loop-index.reader in
    let rows = c.args.rows.now in
    let last : c.loop-index.index ≡ length rows = omega arith in
    let to : scanned end (map word_from (drop c.loop-index.index rows)) (c.loop-index.index + 1) ≡ scanned end [] (length rows + 1) =
    ap (λ ws. scanned end (map word_from ws) (c.loop-index.index + 1)) (drop_all c.loop-index.index rows c.loop-index-test.false) ∙ ap (λ i. scanned end [] (i + 1)) last in
    subst (λ (o : Result Progress Misread). Ended o c.at_word-2.result) (sym (c.loop-index.invariant ∙ to))
    (subst (λ (r : Result Draft Misread). Ended (scanned end [] (length rows + 1)) r) (sym c.at_word-2.ensures) (ended end (length rows + 1) c.finish.result c.finish.ensures))
