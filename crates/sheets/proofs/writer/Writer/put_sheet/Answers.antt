use Rattle.std.proofs.Common.{[], ◌∷◌, ◌++◌, length, sym, ap, ◌∙◌, arith, length-append}
use Rattle.sheets.specs.Words.{bits_of}
use Rattle.sheets.specs.Bytes.{bytes_of}
use Rattle.sheets.specs.Writing.{told}
use Rattle.sheets.proofs.Standing.{held_sound}
use Rattle.sheets.proofs.Acceptance.{row_fits}
use Rattle.sheets.proofs.Filling.{done, done_none, done_some, room, done_all}
use Rattle.sheets.proofs.Written.{beginning, written_more}
use Rattle.sheets.proofs.writer.Writer.put_sheet.Goals as goal
use Rattle.sheets.proofs.writer.Writer.put_sheet.Goals.{in-Some, in_default}

pub bits_of-requires-in-Some : goal.bits_of-requires-in-Some
bits_of-requires-in-Some c =
    let k = c.args.self.now.kind in
    let s = told c.args.self.now in
    let sound = held_sound k c.args.self.now.sources.now in
    row_fits k s.size s.beats c.loop-place.place c.in-Some.word sound.size_legal sound.capped (sym c.in-Some.ensures)

pub put_word-requires-in-Some : goal.put_word-requires-in-Some
put_word-requires-in-Some c =
    let fits = room c.args.self.now.kind (told c.args.self.now) c.loop-place.place c.in-Some.word c.loop-place-test.true (sym c.in-Some.ensures) in
    omega (arith, fits, c.requires, c.loop-place.invariant.0, c.loop-place.auto.buffer)

pub loop-place-preserved : goal.loop-place-preserved
loop-place-preserved c =
    let k = c.args.self.now.kind in
    let s = told c.args.self.now in
    let p = c.loop-place.place in
    let buffer = c.args.buffer.now in
    elim c.match-row_at.branch [
      | in-Some w ↦
          let more = done_some k s p w.in-Some.word (sym w.in-Some.ensures) in
          let long = ap length more ∙ length-append (done k s p) (bytes_of (bits_of w.in-Some.word ∷ [])) in (
            omega (arith, long, w.end-is, c.loop-place.invariant.0),
            w.buffer-is ∙ w.put_word-in-Some.ensures
                ∙ written_more (done k s p) buffer c.loop-place.buffer c.loop-place.end w.bits_of-in-Some.result c.loop-place.invariant.1 c.loop-place.invariant.0
                ∙ ap (λ b. beginning b buffer) (ap (λ b. done k s p ++ bytes_of (b ∷ [])) w.bits_of-in-Some.ensures ∙ sym more),
          )
      | in_default w ↦
          let none = done_none k s p (sym w.in_default.ensures) in (
            w.end-is ∙ c.loop-place.invariant.0 ∙ ap length (sym none),
            w.buffer-is ∙ c.loop-place.invariant.1 ∙ ap (λ b. beginning b buffer) (sym none),
          )
    ]

pub returns : goal.returns
returns c = c.loop-place.invariant.1 ∙ ap (λ b. beginning b c.args.buffer.now) (done_all c.args.self.now.kind (told c.args.self.now) c.loop-place.place (omega arith))
