-- Reading word by word, from the front: how far a reader has come, and where it stops.
use Rattle.std.specs.Prelude.{ℕ, ◌+◌, ◌*◌, ◌/◌, ◌%◌, Bool, true, false, cond, List, [], ◌∷◌, Some, None, Ok, Err, Option, Result}
use Rattle.facts.specs.declared.refusals.Refusal.{Refusal}
use Rattle.facts.specs.declared.refusals.Refusal.TheVariants.{WordCountWrong}
use Rattle.facts.specs.Sheets.{Sheet, amended}
use Rattle.sources.specs.declared.kind.SourceKind.{SourceKind}
use Rattle.sources.specs.declared.kind.SourceKind.TheVariants.{Matrix, Order, Bribes}
use Rattle.sheets.specs.declared.misread.Misread.{Misread}
use Rattle.sheets.specs.declared.words.Word.{Word}
use Rattle.sheets.specs.declared.rows.Awaited.{Awaited}
use Rattle.sheets.specs.declared.rows.Awaited.TheVariants.{Head, Outcome, Upset, Price, Nothing}
use Rattle.sheets.specs.declared.rows.Said.{Said}
use Rattle.sheets.specs.declared.rows.Said.TheVariants.{Head as field, Row as row}
use Rattle.sheets.specs.Places.{next_row}
use Rattle.sheets.specs.Holdings.{plain_sheet}
use Rattle.sheets.specs.Judging.{judged}

pub record Progress : Type 0 where
  -- what the next word has to be
  pub awaited : Awaited
  -- what was read so far; what is still to come is as on a plain sheet
  pub kind : SourceKind
  pub sheet : Sheet

abbrev pub outcome_at : Option ℕ → Awaited
outcome_at None = Nothing
outcome_at (Some p) = Outcome (p / 16) (p % 16)

abbrev pub price_at : Sheet → Option ℕ → Awaited
price_at s None = Nothing
price_at s (Some p) = Price (p / 16) (p % 16) (s.beats (p % 16) (p / 16))

-- what is awaited from a place on
abbrev pub awaited_from : SourceKind → Sheet → ℕ → Awaited
awaited_from Matrix s from = outcome_at (next_row Matrix s.size from)
awaited_from Order s from = Upset from
awaited_from Bribes s from = price_at s (next_row Bribes s.size from)

-- a sheet of a kind, read as far as a place
abbrev pub after : SourceKind → Sheet → ℕ → Progress
after k s from = record { awaited = awaited_from k s from; kind = k; sheet = s }

-- before the first word
abbrev pub opening : Progress
opening = record { awaited = Head; kind = Matrix; sheet = plain_sheet Matrix 2 }

-- the progress that a word adds
abbrev pub advanced : Progress → Said → Progress
advanced p (field n k) = after k (plain_sheet k n) 0
advanced p (row a b facts) = after p.kind (amended p.sheet a b facts) (a * 16 + b + 1)

abbrev pub advanced_by : Progress → Result Said Refusal → Result Progress Refusal
advanced_by p (Ok said) = Ok (advanced p said)
advanced_by p (Err e) = Err e

-- one word more
abbrev pub stepped : Progress → Word → Result Progress Refusal
stepped p word = advanced_by p (judged p.sheet.size p.awaited word)

-- the words may end here
abbrev pub complete : Awaited → Bool
complete Head = false
complete (Outcome lower higher) = false
complete (Upset from) = true
complete (Price winner loser other) = false
complete Nothing = true

-- an answer with the index of the word at which it is refused, if it is
abbrev pub placed : {T : Type 0} → ℕ → Result T Refusal → Result T Misread
placed i (Ok x) = Ok x
placed i (Err e) = Err (record { refusal = e; word = i })

-- all words, the first of them having the index i: the progress after them, or the first refusal with the index of its word
abbrev pub scanned : Progress → List Word → ℕ → Result Progress Misread
scanned p [] i = cond (complete p.awaited) (Ok p) (Err (record { refusal = WordCountWrong; word = i }))
scanned p (w ∷ ws) i = elim (stepped p w) [ Ok q ↦ scanned q ws (i + 1) | Err e ↦ Err (record { refusal = e; word = i }) ]
