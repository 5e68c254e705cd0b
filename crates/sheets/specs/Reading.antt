-- What a reader answers and leaves.
use Rattle.std.specs.Prelude.{◌≡◌, ℕ, ◌%◌, cond, not, ◌||◌, List, map, length, Ok, Err, Result, ◌==◌}
use Rattle.facts.specs.declared.refusals.Refusal.TheVariants.{LengthNotWords}
use Rattle.facts.specs.Sheets.{SameSheet}
use Rattle.sources.specs.declared.kind.SourceKind.{SourceKind}
use Rattle.sheets.specs.declared.misread.Misread.{Misread}
use Rattle.sheets.specs.declared.held.Sources.{Sources}
use Rattle.sheets.specs.Words.{word_of}
use Rattle.sheets.specs.Bytes.{words_of}
use Rattle.sheets.specs.Holdings.{sheet_at, OthersKept}
use Rattle.sheets.specs.Scanning.{Progress, opening, scanned}

-- front to back: the length first, then word by word
abbrev pub read_of : List ℕ → Result Progress Misread
read_of bytes =
    cond (length bytes == 0 || not (length bytes % 4 == 0)) (Err (record { refusal = LengthNotWords; word = 0 }))
    (scanned opening (map word_of (words_of bytes)) 0)

abbrev pub answer_of : Result Progress Misread → Result SourceKind Misread
answer_of (Ok p) = Ok p.kind
answer_of (Err m) = Err m

-- an accepted sheet sets the source of its kind; a refused one nothing
abbrev pub Left : Result Progress Misread → Sources → Sources → Type 0
Left (Ok p) s t = SameSheet (sheet_at p.kind t) p.sheet × OthersKept p.kind s t
Left (Err m) s t = t ≡ s
