-- The words of a sheet put into a buffer, place by place. Assumes nothing.
use Rattle.std.proofs.Common.{◌≡◌, ℕ, ◌+◌, ◌*◌, ◌<◌, ◌≤◌, List, [], ◌∷◌, ◌++◌, map, length, Some, None, ap, ◌∙◌, append-nil, arith, length-append}
use lib.ListN.{length-map}
use Rattle.std.specs.List.{range_with_len, filter_map, cons_option}
use Rattle.std.proofs.lemmas.List.{map-append}
use Rattle.facts.specs.Sheets.{Sheet}
use Rattle.sources.specs.Kinds.{kind_number}
use Rattle.sources.specs.declared.kind.SourceKind.{SourceKind}
use Rattle.sheets.specs.declared.words.Word.{Word}
use Rattle.sheets.specs.declared.words.Word.TheVariants.{Head}
use Rattle.sheets.specs.Words.{bits_of}
use Rattle.sheets.specs.Bytes.{bytes_of}
use Rattle.sheets.specs.Contents.{content_of, row_at, words_of_content}
use Rattle.sheets.specs.Writing.{bytes_for}
use Rattle.sheets.proofs.Stepping.{gathered_more, rows_all, rows_less}
use Rattle.sheets.proofs.Written.{bytes_append, bytes_length}

pub whole_length : (k : SourceKind) (s : Sheet) → length (bytes_for k s) ≡ 4 * length (words_of_content (content_of k s))
whole_length k s = bytes_length (map bits_of (words_of_content (content_of k s))) ∙ ap (λ n. 4 * n) (length-map (words_of_content (content_of k s)) bits_of)

module _ (k : SourceKind) (s : Sheet) where
  -- the head and the rows before a place
  abbrev words : ℕ → List Word
  words m = Head s.size (kind_number k) ∷ filter_map (row_at k s.size s.beats) (range_with_len 0 m)

  -- the bytes of these
  abbrev pub done : ℕ → List ℕ
  done m = bytes_of (map bits_of (words m))

  done_length : (m : ℕ) → length (done m) ≡ 4 * length (words m)
  done_length m = bytes_length (map bits_of (words m)) ∙ ap (λ n. 4 * n) (length-map (words m) bits_of)

  pub done_none : (m : ℕ) → row_at k s.size s.beats m ≡ None → done (m + 1) ≡ done m
  done_none m h =
      ap (λ ws. bytes_of (map bits_of (Head s.size (kind_number k) ∷ ws)))
      (gathered_more (row_at k s.size s.beats) m ∙ ap (λ o. filter_map (row_at k s.size s.beats) (range_with_len 0 m) ++ cons_option o []) h ∙ append-nil (filter_map (row_at k s.size s.beats) (range_with_len 0 m)))

  pub done_some : (m : ℕ) (word : Word) → row_at k s.size s.beats m ≡ Some word → done (m + 1) ≡ done m ++ bytes_of (bits_of word ∷ [])
  done_some m word h =
      ap (λ ws. bytes_of (map bits_of (Head s.size (kind_number k) ∷ ws))) (gathered_more (row_at k s.size s.beats) m ∙ ap (λ o. filter_map (row_at k s.size s.beats) (range_with_len 0 m) ++ cons_option o []) h)
      ∙ ap bytes_of (map-append bits_of (words m) (word ∷ [])) ∙ bytes_append (map bits_of (words m)) (bits_of word ∷ [])

  -- there is room for the row of a place
  pub room : (m : ℕ) (word : Word) → m < 256 → row_at k s.size s.beats m ≡ Some word → length (done m) + 4 ≤ length (bytes_for k s)
  room m word l h =
      let whole = whole_length k s in
      let more = done_length (m + 1) in
      let step = ap length (done_some m word h) ∙ length-append (done m) (bytes_of (bits_of word ∷ [])) in
      let less = rows_less k s.size s.beats (m + 1) (omega arith) in
      omega (arith, whole, more, step, less)

  pub done_all : (m : ℕ) → m ≡ 256 → done m ≡ bytes_for k s
  done_all m h = ap (λ ws. bytes_of (map bits_of (Head s.size (kind_number k) ∷ ws))) (rows_all k s.size s.beats m h)
