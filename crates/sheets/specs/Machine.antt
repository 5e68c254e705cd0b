-- The reader's own state as progress.
use Rattle.std.specs.Prelude.{◌≡◌, ℕ, List, true, false, Ok, Err, Result}
use Rattle.std.specs.Int.{w32, from_le_bytes}
use Rattle.facts.specs.declared.refusals.Refusal.{Refusal}
use Rattle.facts.specs.declared.refusals.Refusal.TheVariants.{WordCountWrong}
use Rattle.sheets.specs.declared.misread.Misread.{Misread}
use Rattle.sheets.specs.declared.draft.Draft.{Draft}
use Rattle.sheets.specs.declared.reader.Reader.{Reader}
use Rattle.sheets.specs.declared.words.Word.{Word}
use Rattle.sheets.specs.Words.{word_of}
use Rattle.sheets.specs.Drafts.{draft_kind, draft_sheet}
use Rattle.sheets.specs.Scanning.{Progress, after, complete}

-- the word that four bytes say
abbrev pub word_from : List ℕ → Word
word_from bytes = word_of (from_le_bytes w32 bytes)

abbrev pub progress_of : Reader → Progress
progress_of r = after (draft_kind r.draft) (draft_sheet r.draft) r.from

-- the reader that a head makes, or its refusal
abbrev pub Opened : Result Progress Refusal → Result Reader Refusal → Type 0
Opened (Ok p) r = (after : Reader) × (r ≡ Ok after) × (progress_of after ≡ p)
Opened (Err e) r = r ≡ Err e

-- the answer of a step, and the state that it leaves
abbrev pub Moved : Result Progress Refusal → Result (Unit {0}) Refusal → Reader → Type 0
Moved (Ok p) r after = (r ≡ Ok tt) × (progress_of after ≡ p)
Moved (Err e) r after = r ≡ Err e

-- what was read, where the words may end
abbrev pub Finished : Progress → Result Draft Refusal → Type 0
Finished p (Ok d) = (complete p.awaited ≡ true) × (draft_kind d ≡ p.kind) × (draft_sheet d ≡ p.sheet)
Finished p (Err e) = (complete p.awaited ≡ false) × (e ≡ WordCountWrong)

-- what was read after all words, or what stopped the reader
abbrev pub Ended : Result Progress Misread → Result Draft Misread → Type 0
Ended (Ok p) r = (d : Draft) × (r ≡ Ok d) × (draft_kind d ≡ p.kind) × (draft_sheet d ≡ p.sheet)
Ended (Err m) r = r ≡ Err m
