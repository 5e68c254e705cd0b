-- The source that a sheet is read into.
use Rattle.std.specs.Prelude.{◌≡◌, ℕ, true, false, Ok, Err, Result}
use Rattle.facts.specs.declared.refusals.Refusal.{Refusal}
use Rattle.facts.specs.declared.refusals.Refusal.TheVariants.{SizeNotAllowed}
use Rattle.facts.specs.Fields.{legal}
use Rattle.facts.specs.Sheets.{Sheet, SameSheet}
use Rattle.sources.specs.declared.kind.SourceKind.{SourceKind}
use Rattle.sources.specs.declared.kind.SourceKind.TheVariants.{Matrix, Order, Bribes}
use Rattle.sheets.specs.declared.draft.Draft.{Draft}
use Rattle.sheets.specs.declared.draft.Draft.TheVariants.{Matrix as a_matrix, Order as an_order, Bribes as a_bribe_file}
use Rattle.sheets.specs.Holdings.{matrix_means, order_means, bribes_mean, plain_sheet}

abbrev pub draft_kind : Draft → SourceKind
draft_kind (a_matrix m) = Matrix
draft_kind (an_order o) = Order
draft_kind (a_bribe_file f) = Bribes

-- what it means
abbrev pub draft_sheet : Draft → Sheet
draft_sheet (a_matrix m) = matrix_means m
draft_sheet (an_order o) = order_means o
draft_sheet (a_bribe_file f) = bribes_mean f

-- a draft of a kind and of n entrants that is plain, or the refusal of a size that no knockout has
abbrev pub PlainDraft : SourceKind → ℕ → Result Draft Refusal → Type 0
PlainDraft k n (Ok d) = (legal n ≡ true) × (draft_kind d ≡ k) × SameSheet (draft_sheet d) (plain_sheet k n)
PlainDraft k n (Err e) = (legal n ≡ false) × (e ≡ SizeNotAllowed)
