use Rattle.std.proofs.Common.{◌≡◌, ◌+◌, ◌∷◌, map, drop}
use Rattle.sheets.specs.Scanning.{opening, scanned}
use Rattle.sheets.specs.Machine.{word_from, progress_of}
use Rattle.sheets.proofs.reader.scan.Given as goal

abbrev pub invariant-loop-index : goal.invariant-loop-index
invariant-loop-index l =
    scanned opening (map word_from (l.fn.head ∷ l.fn.rows)) 0 ≡ scanned (progress_of l.reader) (map word_from (drop l.index l.fn.rows)) (l.index + 1)
