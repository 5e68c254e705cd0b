-- What a sheet says, the words that say it, and the sheet that it gives.
use Rattle.std.specs.Prelude.{◌≡◌, ℕ, ◌/◌, ◌%◌, Bool, true, false, cond, List, ◌∷◌, map, Some, None, Option}
use Rattle.std.specs.List.{range_with_len, filter_map}
use Rattle.facts.specs.Facts.{free, over_top, one_free}
use Rattle.facts.specs.Fields.{legal, opponents}
use Rattle.facts.specs.Sheets.{Sheet, SameSheet}
use Rattle.sources.specs.Kinds.{kind_number}
use Rattle.sources.specs.Matrices.{certain}
use Rattle.sources.specs.Orders.{ranked}
use Rattle.sources.specs.declared.kind.SourceKind.{SourceKind}
use Rattle.sources.specs.declared.kind.SourceKind.TheVariants.{Matrix, Order, Bribes}
use Rattle.sheets.specs.declared.words.Word.{Word}
use Rattle.sheets.specs.declared.words.Word.TheVariants.{Head, Price, Upset, Outcome}
use Rattle.sheets.specs.Words.{bits_of}
use Rattle.sheets.specs.Bytes.{bytes_of}
use Rattle.sheets.specs.Places.{has_row}

-- a kind of source, a number of entrants, and what it takes for the first of two to beat the second
pub record Content : Type 0 where
  pub kind : SourceKind
  pub size : ℕ
  pub beats : ℕ → ℕ → Option ℕ

-- what a sheet says as a content
abbrev pub content_of : SourceKind → Sheet → Content
content_of k s = record { kind = k; size = s.size; beats = s.beats }

-- the pairings that a source of each kind carries
abbrev pub carries_of : SourceKind → ℕ → ℕ → Option ℕ → Option ℕ → Bool
carries_of Matrix a b f g = certain f g
carries_of Order a b f g = ranked a b f g
carries_of Bribes a b f g = one_free f g

-- the field has a legal size, every pairing is one that its kind of source carries, and no price is above the top
pub record Sound (c : Content) : Type 0 where
  pub size_legal : legal c.size ≡ true
  pub carried : (a b : ℕ) → opponents c.size a b ≡ true → carries_of c.kind a b (c.beats a b) (c.beats b a) ≡ true
  pub capped : (a b : ℕ) → opponents c.size a b ≡ true → over_top (c.beats a b) ≡ false

-- the sheet that a content gives
abbrev pub sheet_of : Content → Sheet
sheet_of c =
    record {
      size = c.size;
      beats = λ a b. cond (opponents c.size a b) (c.beats a b) None;
      carries = carries_of c.kind;
    }

-- the row of a first and a second entrant, by what it takes for the first to win; an order has none where no upset is marked
abbrev pub row_for : SourceKind → ℕ → ℕ → Option ℕ → Option Word
row_for Matrix w l fact = Some (cond (free fact) (Outcome w l) (Outcome l w))
row_for Order w l fact = cond (free fact) (Some (Upset w l)) None
row_for Bribes w l fact = Some (Price w l (Some fact))

-- the row that stands at a place
abbrev pub row_at : SourceKind → ℕ → (ℕ → ℕ → Option ℕ) → ℕ → Option Word
row_at k n beats p = cond (has_row k n p) (row_for k (p / 16) (p % 16) (beats (p / 16) (p % 16))) None

-- all rows, by rising place
unfoldable pub rows_of : SourceKind → ℕ → (ℕ → ℕ → Option ℕ) → List Word
rows_of k n beats = filter_map (row_at k n beats) (range_with_len 0 256)

-- the words of a content: its head, then its rows
abbrev pub words_of_content : Content → List Word
words_of_content c = Head c.size (kind_number c.kind) ∷ rows_of c.kind c.size c.beats

-- the bytes are the words of a sound content of that kind, which gives the sheet s
abbrev pub Says : List ℕ → SourceKind → Sheet → Type 0
Says bytes k s = (c : Content) × Sound c × (c.kind ≡ k) × (bytes ≡ bytes_of (map bits_of (words_of_content c))) × SameSheet (sheet_of c) s
