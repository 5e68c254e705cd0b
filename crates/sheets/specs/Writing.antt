-- What a writer answers and leaves.
use Rattle.std.specs.Prelude.{ℕ, cond, List, ◌++◌, map, length, drop, Ok, Err, Result, nat_lt}
use Rattle.facts.specs.declared.refusals.Refusal.{Refusal}
use Rattle.facts.specs.declared.refusals.Refusal.TheVariants.{MemoryTooShort}
use Rattle.facts.specs.Sheets.{Sheet}
use Rattle.sources.specs.declared.kind.SourceKind.{SourceKind}
use Rattle.sheets.specs.declared.words.Word.{Word}
use Rattle.sheets.specs.declared.writer.Writer.{Writer}
use Rattle.sheets.specs.Holdings.{sheet_at}
use Rattle.sheets.specs.Words.{bits_of}
use Rattle.sheets.specs.Bytes.{bytes_of}
use Rattle.sheets.specs.Contents.{content_of, words_of_content}

-- the bytes of what a sheet says
abbrev pub bytes_for : SourceKind → Sheet → List ℕ
bytes_for k s = bytes_of (map bits_of (words_of_content (content_of k s)))

-- what the source that a writer writes means
abbrev pub told : Writer → Sheet
told w = sheet_at w.kind w.sources.now

-- the words that it writes
abbrev pub words_told : Writer → List Word
words_told w = words_of_content (content_of w.kind (told w))

-- how many bytes are written, or the refusal of a buffer that is too short
abbrev pub size_or_refusal : List ℕ → List ℕ → Result ℕ Refusal
size_or_refusal bytes buffer = cond (nat_lt (length buffer) (length bytes)) (Err MemoryTooShort) (Ok (length bytes))

-- the bytes in front of what was behind them, or nothing changed
abbrev pub overwritten : List ℕ → List ℕ → List ℕ
overwritten bytes buffer = cond (nat_lt (length buffer) (length bytes)) buffer (bytes ++ drop (length bytes) buffer)
