use Rattle.std.proofs.Common.{ℕ, cond, length, sym, ap, arith}
use Rattle.sheets.specs.Contents.{row_at}
use Rattle.sheets.specs.Writing.{told}
use Rattle.sheets.proofs.Stepping.{gathered_count, rows_all, rows_less, rows_few}
use Rattle.sheets.proofs.writer.Writer.count_words.Goals as goal
use Rattle.sheets.proofs.writer.Writer.count_words.Goals.{then-is_some, else-is_some}

pub overflow_add-count : goal.overflow_add-count
overflow_add-count c =
    let k = c.args.self.now.kind in
    let s = told c.args.self.now in
    let less = rows_less k s.size s.beats c.loop-place.place (omega arith) in
    omega (arith, less, rows_few k s.size s.beats, c.loop-place.invariant)

pub loop-place-preserved : goal.loop-place-preserved
loop-place-preserved c =
    let s = told c.args.self.now in
    let more = gathered_count (row_at c.args.self.now.kind s.size s.beats) c.loop-place.place c.row_at.result c.row_at.ensures in
    elim c.if-is_some.branch [
      | then-is_some w ↦ let t = ap (λ b. cond {A = ℕ} b 1 0) (sym w.if-is_some.ensures) in omega (arith, more, t, w.count-is, c.loop-place.invariant)
      | else-is_some w ↦ let t = ap (λ b. cond {A = ℕ} b 1 0) (sym w.if-is_some.ensures) in omega (arith, more, t, w.count-is, c.loop-place.invariant)
    ]

pub returns : goal.returns
returns c =
    let k = c.args.self.now.kind in
    let s = told c.args.self.now in
    let all = ap length (rows_all k s.size s.beats c.loop-place.place (omega arith)) in
    (omega (arith, all, c.loop-place.invariant), omega (arith, all, rows_few k s.size s.beats, c.loop-place.invariant))
