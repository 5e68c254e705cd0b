-- One word more of a scan. Assumes nothing.
use Rattle.std.proofs.Common.{◌≡◌, ℕ, zero, suc, ◌+◌, ◌-◌, ◌*◌, ◌/◌, ◌%◌, ◌<◌, ◌≤◌, not, ◌||◌, eqb, List, [], ◌∷◌, map, length, get_or, take, drop, Ok, Err, Result, sym, refl, ap, ◌∙◌, subst, arith, length-drop}
use Rattle.std.specs.Int.{w32, from_le_bytes}
use Rattle.std.specs.Simd.{first_chunks}
use Rattle.std.proofs.Math.Seq.{drop-cons}
use Rattle.std.proofs.lemmas.Bool.{or_from, eq-eqb, ne_eqb, not_from_true, cond-true, cond-false}
use Rattle.std.proofs.lemmas.Slice.{first_rest}
use Rattle.facts.specs.declared.refusals.Refusal.{Refusal}
use Rattle.facts.specs.declared.refusals.Refusal.TheVariants.{WordCountWrong}
use Rattle.sources.specs.declared.kind.SourceKind.{SourceKind}
use Rattle.sheets.specs.declared.held.Sources.{Sources}
use Rattle.sheets.specs.declared.misread.Misread.{Misread}
use Rattle.sheets.specs.declared.draft.Draft.{Draft}
use Rattle.sheets.specs.declared.reader.Reader.{Reader}
use Rattle.sheets.specs.declared.words.Word.{Word}
use Rattle.sheets.specs.Bytes.{words_of}
use Rattle.sheets.specs.Words.{word_of}
use Rattle.sheets.specs.Holdings.{sheet_at, OthersKept}
use Rattle.sheets.specs.Drafts.{draft_kind, draft_sheet}
use Rattle.sheets.specs.Reading.{read_of, answer_of, Left}
use Rattle.sheets.specs.Scanning.{Progress, opening, stepped, complete, placed, scanned}
use Rattle.sheets.specs.Machine.{word_from, progress_of, Opened, Moved, Finished, Ended}
use Rattle.sheets.proofs.Alike.{unlike}

-- four bytes make the first word
words_open : (bytes : List ℕ) → 4 ≤ length bytes → words_of bytes ≡ from_le_bytes w32 (take 4 bytes) ∷ words_of (drop 4 bytes)
words_open [] h = absurd (omega arith)
words_open (a ∷ []) h = absurd (omega arith)
words_open (a ∷ b ∷ []) h = absurd (omega arith)
words_open (a ∷ b ∷ c ∷ []) h = absurd (omega arith)
words_open (a ∷ b ∷ c ∷ d ∷ rest) h = let e : a + b * 256 + c * 65536 + d * 16777216 ≡ from_le_bytes w32 (a ∷ b ∷ c ∷ d ∷ []) = omega arith in ap (λ w. w ∷ words_of rest) e

no_words : (bytes : List ℕ) → length bytes < 4 → words_of bytes ≡ []
no_words [] h = refl
no_words (a ∷ []) h = refl
no_words (a ∷ b ∷ []) h = refl
no_words (a ∷ b ∷ c ∷ []) h = refl
no_words (a ∷ b ∷ c ∷ d ∷ rest) h = absurd (omega arith)

-- the words of bytes are those of their chunks of four
pub words_chunked : (n : ℕ) (bytes : List ℕ) → n ≡ length bytes / 4 → map word_of (words_of bytes) ≡ map word_from (first_chunks 4 n bytes)
words_chunked zero bytes h = ap (map word_of) (no_words bytes (omega arith))
words_chunked (suc n) bytes h =
    ap (map word_of) (words_open bytes (omega arith))
    ∙ ap (λ ws. word_from (take 4 bytes) ∷ ws) (words_chunked n (drop 4 bytes) (omega (arith, length-drop 4 bytes)))

-- the rows behind a place begin with the row there
pub rows_open : (rows : List (List ℕ)) (i : ℕ) → i < length rows → map word_from (drop i rows) ≡ word_from (get_or rows i []) ∷ map word_from (drop (i + 1) rows)
rows_open rows i h = let e : suc i ≡ i + 1 = omega arith in ap (map word_from) (drop-cons rows i [] h ∙ ap (λ n. get_or rows i [] ∷ drop n rows) e)

-- what an answer at a word was
passed_at : {T : Type 0} (i : ℕ) (r : Result T Refusal) (x : T) → placed i r ≡ Ok x → r ≡ Ok x
passed_at i (Ok y) x h = let is : y ≡ x = cc in ap Ok is
passed_at i (Err e) x h = absurd (cc)

-- a head that passed goes on from what it began
pub begun : (w : Word) (ws : List Word) (r : Result Reader Refusal) (reader : Reader) → Opened (stepped opening w) r → placed 0 r ≡ Ok reader → scanned opening (w ∷ ws) 0 ≡ scanned (progress_of reader) ws 1
begun w ws r reader h passed = go (stepped opening w) (subst (λ (o : Result Reader Refusal). Opened (stepped opening w) o) (passed_at 0 r reader passed) h)
  where
    go : (o : Result Progress Refusal) → Opened o (Ok reader)
        → (elim o as (λ _. Result Progress Misread) [ Ok q ↦ scanned q ws 1 | Err e ↦ Err (record { refusal = e; word = 0 }) ]) ≡ scanned (progress_of reader) ws 1
    go (Ok q) (after, is, to) = let same : reader ≡ after = cc in ap (λ q. scanned q ws 1) (sym to ∙ ap progress_of (sym same))
    go (Err e) k = absurd (cc)

-- a step that passed goes on from where it led
pub onward : (p : Progress) (w : Word) (ws : List Word) (i : ℕ) (r : Result (Unit {0}) Refusal) (after : Reader) (done : Unit {0}) → Moved (stepped p w) r after → placed i r ≡ Ok done
    → scanned p (w ∷ ws) i ≡ scanned (progress_of after) ws (i + 1)
onward p w ws i r after done h passed = go (stepped p w) (subst (λ (o : Result (Unit {0}) Refusal). Moved (stepped p w) o after) (passed_at i r done passed) h)
  where
    go : (o : Result Progress Refusal) → Moved o (Ok done) after
        → (elim o as (λ _. Result Progress Misread) [ Ok q ↦ scanned q ws (i + 1) | Err e ↦ Err (record { refusal = e; word = i }) ]) ≡ scanned (progress_of after) ws (i + 1)
    go (Ok q) k = ap (λ q. scanned q ws (i + 1)) (sym k.1)
    go (Err e) k = absurd (cc)

-- a refused head ends the scan
pub not_begun : (w : Word) (ws : List Word) (r : Result Reader Refusal) (m : Misread) → Opened (stepped opening w) r → placed 0 r ≡ Err m → Ended (scanned opening (w ∷ ws) 0) (Err m)
not_begun w ws (Ok x) m h stopped = absurd (cc)
not_begun w ws (Err e) m h stopped = go (stepped opening w) h
  where
    go : (o : Result Progress Refusal) → Opened o (Err e) → Ended (elim o as (λ _. Result Progress Misread) [ Ok q ↦ scanned q ws 1 | Err e ↦ Err (record { refusal = e; word = 0 }) ]) (Err m)
    go (Ok q) (after, is, to) = absurd (cc)
    go (Err d) k = let told : m ≡ record { refusal = e; word = 0 } = cc in let is : e ≡ d = cc in ap Err (told ∙ ap (λ x. record { refusal = x; word = 0 }) is)

-- and so does a refused step
pub stopped : (p : Progress) (w : Word) (ws : List Word) (i : ℕ) (r : Result (Unit {0}) Refusal) (after : Reader) (m : Misread) → Moved (stepped p w) r after → placed i r ≡ Err m → Ended (scanned p (w ∷ ws) i) (Err m)
stopped p w ws i (Ok x) after m h stop = absurd (cc)
stopped p w ws i (Err e) after m h stop = go (stepped p w) h
  where
    go : (o : Result Progress Refusal) → Moved o (Err e) after → Ended (elim o as (λ _. Result Progress Misread) [ Ok q ↦ scanned q ws (i + 1) | Err e ↦ Err (record { refusal = e; word = i }) ]) (Err m)
    go (Ok q) k = absurd (cc k.0)
    go (Err d) k = let told : m ≡ record { refusal = e; word = i } = cc in let is : e ≡ d = cc in ap Err (told ∙ ap (λ x. record { refusal = x; word = i }) is)

-- a reader at the end of the words
pub ended : (p : Progress) (i : ℕ) (f : Result Draft Refusal) → Finished p f → Ended (scanned p [] i) (placed i f)
ended p i (Ok d) (whole, kind, sheet) =
    subst (λ (o : Result Progress Misread). Ended o (Ok d)) (sym (cond-true (complete p.awaited) (Ok p) (Err (record { refusal = WordCountWrong; word = i })) whole)) (d, refl, kind, sheet)
ended p i (Err e) (short, is) =
    subst (λ (o : Result Progress Misread). Ended o (Err (record { refusal = e; word = i }))) (sym (cond-false (complete p.awaited) (Ok p) (Err (record { refusal = WordCountWrong; word = i })) short))
    (ap (λ x. Err (record { refusal = x; word = i })) is)

-- bytes that are cut into chunks of four, with none left over, are read chunk by chunk
pub read_chunked : (bytes : List ℕ) (chunks : List (List ℕ)) → chunks ≡ first_chunks 4 (length bytes / 4) bytes → length chunks ≡ length bytes / 4 → 0 < length chunks → length bytes % 4 ≡ 0
    → read_of bytes ≡ scanned opening (map word_from (get_or chunks 0 [] ∷ take (length chunks - 1) (drop 1 chunks))) 0
read_chunked bytes chunks cut many some whole =
    cond-false (eqb (length bytes) 0 || not (eqb (length bytes % 4) 0)) _ _
    (or_from (eqb (length bytes) 0) (not (eqb (length bytes % 4) 0)) (ne_eqb (length bytes) 0 (λ e. omega arith)) (not_from_true (eqb (length bytes % 4) 0) (eq-eqb (length bytes % 4) 0 whole)))
    ∙ ap (λ ws. scanned opening ws 0) (words_chunked (length bytes / 4) bytes refl ∙ ap (map word_from) (sym cut ∙ first_rest chunks [] some))

-- what was read is put in the place of the source of its kind
pub put_in : (o : Result Progress Misread) (d : Draft) (k : SourceKind) (s t : Sources) → Ended o (Ok d) → (k ≡ draft_kind d) × (sheet_at k t ≡ draft_sheet d) × OthersKept k s t → (Ok k ≡ answer_of o) × Left o s t
put_in (Err m) d k s t h put = absurd (cc)
put_in (Ok p) d k s t (e, is, kind, sheet) (a, b, kept) =
    let same : d ≡ e = cc in
    let named : k ≡ p.kind = a ∙ ap draft_kind same ∙ kind in
    (ap Ok named, (unlike (sheet_at p.kind t) p.sheet (ap (λ j. sheet_at j t) (sym named) ∙ b ∙ ap draft_sheet same ∙ sheet), subst (λ (j : SourceKind). OthersKept j s t) named kept))

pub refused : (o : Result Progress Misread) (m : Misread) (s : Sources) → Ended o (Err m) → (Err m ≡ answer_of o) × Left o s s
refused (Ok p) m s (d, is, kind, sheet) = absurd (cc)
refused (Err n) m s is = (let same : m ≡ n = cc in ap Err same, refl)
