use Rattle.std.proofs.Common.{◌≡◌, length}
use Rattle.sheets.specs.Writing.{told}
use Rattle.sheets.proofs.Written.{beginning}
use Rattle.sheets.proofs.Filling.{done}
use Rattle.sheets.proofs.writer.Writer.put_sheet.Given as goal

abbrev pub invariant-loop-place : goal.invariant-loop-place
invariant-loop-place l =
    let bytes = done l.fn.self.kind (told l.fn.self) l.place in
    (l.end ≡ length bytes) × (l.buffer ≡ beginning bytes l.fn.buffer)
