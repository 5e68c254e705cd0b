use Rattle.std.proofs.Common.{◌≡◌, ◌+◌, length}
use Rattle.std.specs.List.{range_with_len, filter_map}
use Rattle.sheets.specs.Contents.{row_at}
use Rattle.sheets.specs.Writing.{told}
use Rattle.sheets.proofs.writer.Writer.count_words.Given as goal

abbrev pub invariant-loop-place : goal.invariant-loop-place
invariant-loop-place l =
    let s = told l.fn.self in
    l.count ≡ 1 + length (filter_map (row_at l.fn.self.kind s.size s.beats) (range_with_len 0 l.place))
