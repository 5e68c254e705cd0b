-- What each of the three sources held is: lawful, and carrying what its kind carries. Assumes nothing.
use Rattle.std.proofs.Common.{◌≡◌, ℕ, Bool, true, false, cond, None, Option, sym, refl, ◌∙◌}
use Rattle.std.proofs.lemmas.Bool.{cond-true, cond-false}
use Rattle.facts.specs.Fields.{opponents}
use Rattle.facts.specs.Sheets.{Lawful, SameSheet}
use Rattle.sources.specs.declared.kind.SourceKind.{SourceKind}
use Rattle.sources.specs.declared.kind.SourceKind.TheVariants.{Matrix, Order, Bribes}
use Rattle.sources.specs.Lawfulness.{matrix_lawful, order_lawful, bribes_lawful, matrix_carries_own, order_carries_own, bribes_carry_own}
use Rattle.sources.specs.declared.square.Square.{Square}
use Rattle.sources.specs.declared.matrix.Winner.{Winner}
use Rattle.sources.specs.declared.order.Upset.{Upset}
use Rattle.sources.specs.declared.pairing.Pairing.{Pairing}
use Rattle.sheets.specs.declared.held.Sources.{Sources}
use Rattle.sheets.specs.declared.draft.Draft.{Draft}
use Rattle.sheets.specs.declared.draft.Draft.TheVariants.{Matrix as a_matrix, Order as an_order, Bribes as a_bribe_file}
use Rattle.sheets.specs.Holdings.{matrix_means, order_means, bribes_mean, sheet_at}
use Rattle.sheets.specs.Drafts.{draft_kind, draft_sheet}
use Rattle.sheets.specs.Contents.{Sound, carries_of, content_of, sheet_of}

matrix_stands : (m : Square Winner) → Lawful (matrix_means m)
matrix_stands m = matrix_lawful m.size.entrants m.kept m.whole m.size.legal

order_stands : (o : Square Upset) → Lawful (order_means o)
order_stands o = order_lawful o.size.entrants o.kept o.whole o.size.legal

bribes_stand : (f : Square Pairing) → Lawful (bribes_mean f)
bribes_stand f = bribes_lawful f.size.entrants f.kept f.whole f.size.legal

pub held_lawful : (k : SourceKind) (s : Sources) → Lawful (sheet_at k s)
held_lawful Matrix s = matrix_stands s.matrix
held_lawful Order s = order_stands s.order
held_lawful Bribes s = bribes_stand s.bribes

pub draft_lawful : (d : Draft) → Lawful (draft_sheet d)
draft_lawful (a_matrix m) = matrix_stands m
draft_lawful (an_order o) = order_stands o
draft_lawful (a_bribe_file f) = bribes_stand f

pub draft_carries : (d : Draft) (a b : ℕ) (f g : Option ℕ) → (draft_sheet d).carries a b f g ≡ carries_of (draft_kind d) a b f g
draft_carries (a_matrix m) a b f g = refl
draft_carries (an_order o) a b f g = refl
draft_carries (a_bribe_file h) a b f g = refl

pub held_carries : (k : SourceKind) (s : Sources) (a b : ℕ) (f g : Option ℕ) → (sheet_at k s).carries a b f g ≡ carries_of k a b f g
held_carries Matrix s a b f g = refl
held_carries Order s a b f g = refl
held_carries Bribes s a b f g = refl

-- what each says is sound
pub held_sound : (k : SourceKind) (s : Sources) → Sound (content_of k (sheet_at k s))
held_sound k s = record { size_legal = (held_lawful k s).size_legal; carried = own k; capped = λ a b h. (held_lawful k s).capped a b }
  where
    own : (k : SourceKind) (a b : ℕ) → opponents (sheet_at k s).size a b ≡ true → carries_of k a b ((sheet_at k s).beats a b) ((sheet_at k s).beats b a) ≡ true
    own Matrix = matrix_carries_own s.matrix.size.entrants s.matrix.kept s.matrix.whole s.matrix.size.legal
    own Order = order_carries_own s.order.size.entrants s.order.kept s.order.whole s.order.size.legal
    own Bribes = bribes_carry_own s.bribes.size.entrants s.bribes.kept s.bribes.whole s.bribes.size.legal

-- and gives the sheet itself
pub held_given : (k : SourceKind) (s : Sources) → SameSheet (sheet_of (content_of k (sheet_at k s))) (sheet_at k s)
held_given k s =
    record { size = refl; beats = λ a b. go a b (opponents (sheet_at k s).size a b) refl; carries = λ a b f g. sym (held_carries k s a b f g) }
  where
    go : (a b : ℕ) (o : Bool) → opponents (sheet_at k s).size a b ≡ o → cond (opponents (sheet_at k s).size a b) ((sheet_at k s).beats a b) None ≡ (sheet_at k s).beats a b
    go a b true h = cond-true (opponents (sheet_at k s).size a b) _ None h
    go a b false h = cond-false (opponents (sheet_at k s).size a b) _ None h ∙ sym ((held_lawful k s).never_outside a b h)
