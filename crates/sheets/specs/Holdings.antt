-- One match source of each kind.
use Rattle.std.specs.Prelude.{◌≡◌, ℕ, true, false, Ok, Err, Result}
use Rattle.facts.specs.declared.refusals.Refusal.{Refusal}
use Rattle.facts.specs.declared.refusals.Refusal.TheVariants.{SizeNotAllowed}
use Rattle.facts.specs.Fields.{legal}
use Rattle.facts.specs.Sheets.{Sheet, SameSheet}
use Rattle.sources.specs.Matrices.{matrix_sheet, lower_wins_all}
use Rattle.sources.specs.Orders.{order_sheet, no_upsets}
use Rattle.sources.specs.Bribery.{bribe_sheet, all_free}
use Rattle.sources.specs.declared.kind.SourceKind.{SourceKind}
use Rattle.sources.specs.declared.kind.SourceKind.TheVariants.{Matrix, Order, Bribes}
use Rattle.sources.specs.declared.square.Square.{Square}
use Rattle.sources.specs.declared.matrix.Winner.{Winner}
use Rattle.sources.specs.declared.order.Upset.{Upset}
use Rattle.sources.specs.declared.pairing.Pairing.{Pairing}
use Rattle.sheets.specs.declared.held.Sources.{Sources}

-- what each of the three means
abbrev pub matrix_means : Square Winner → Sheet
matrix_means m = matrix_sheet m.size.entrants m.kept

abbrev pub order_means : Square Upset → Sheet
order_means o = order_sheet o.size.entrants o.kept

abbrev pub bribes_mean : Square Pairing → Sheet
bribes_mean f = bribe_sheet f.size.entrants f.kept

-- what the source of a kind means
abbrev pub sheet_at : SourceKind → Sources → Sheet
sheet_at Matrix s = matrix_means s.matrix
sheet_at Order s = order_means s.order
sheet_at Bribes s = bribes_mean s.bribes

-- the other two are as they were
abbrev pub OthersKept : SourceKind → Sources → Sources → Type 0
OthersKept Matrix s t = (t.order ≡ s.order) × (t.bribes ≡ s.bribes)
OthersKept Order s t = (t.matrix ≡ s.matrix) × (t.bribes ≡ s.bribes)
OthersKept Bribes s t = (t.matrix ≡ s.matrix) × (t.order ≡ s.order)

-- the sheet of n entrants that a reader begins from
abbrev pub plain_sheet : SourceKind → ℕ → Sheet
plain_sheet Matrix n = lower_wins_all n
plain_sheet Order n = no_upsets n
plain_sheet Bribes n = all_free n

-- sources that each mean it, or the refusal of a size that no knockout has
abbrev pub AllPlain : ℕ → Result Sources Refusal → Type 0
AllPlain n (Ok s) = (legal n ≡ true) × ((k : SourceKind) → SameSheet (sheet_at k s) (plain_sheet k n))
AllPlain n (Err e) = (legal n ≡ false) × (e ≡ SizeNotAllowed)
