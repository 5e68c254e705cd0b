-- Bytes are accepted exactly when they are the words of a sound content. Assumes nothing.
use Rattle.std.proofs.Common.{◌≡◌, ℕ, zero, suc, ◌+◌, ◌*◌, ◌/◌, ◌%◌, ◌<◌, ◌≤◌, Bool, true, false, cond, not, ◌&&◌, ◌||◌, eqb, ltb, List, [], ◌∷◌, map, length, get_or, Some, None, Ok, Err, Option, Result, sym, refl, ap, ◌∙◌, subst, arith}
use Rattle.std.specs.List.{range_with_len, filter_map, cons_option}
use Rattle.std.proofs.lemmas.Bool.{and_parts, or_parts, or_from, ltb-true, ltb-false, eqb-true, ne_eqb, eq-eqb, not-false, not_from_true, both_ways, cond-true, cond-false}
use Rattle.facts.specs.declared.refusals.Refusal.{Refusal}
use Rattle.facts.specs.declared.refusals.Refusal.TheVariants.{LengthNotWords, SizeNotAllowed, SourceUnknown}
use Rattle.facts.specs.Facts.{free, over_top}
use Rattle.facts.specs.Fields.{legal, opponents}
use Rattle.facts.specs.Sheets.{Sheet, SameSheet}
use Rattle.sources.specs.Kinds.{kind_number, kind_of}
use Rattle.sources.specs.Orders.{ranked, plain}
use Rattle.sources.specs.Held.{turned, uniform_sheet}
use Rattle.sources.specs.declared.kind.SourceKind.{SourceKind}
use Rattle.sources.specs.declared.kind.SourceKind.TheVariants.{Matrix, Order, Bribes}
use Rattle.sources.specs.Holding.{legal_small, met, met_back}
use Rattle.sheets.specs.declared.held.Sources.{Sources}
use Rattle.sheets.specs.declared.misread.Misread.{Misread}
use Rattle.sheets.specs.declared.words.Word.{Word}
use Rattle.sheets.specs.declared.words.Word.TheVariants.{Head, Price, Upset, Outcome, Stray}
use Rattle.sheets.specs.declared.rows.Said.{Said}
use Rattle.sheets.specs.declared.rows.Said.TheVariants.{Head as field, Row as row}
use Rattle.sheets.specs.Words.{Fitting, bits_of, word_of}
use Rattle.sheets.specs.Bytes.{bytes_of, words_of}
use Rattle.sheets.specs.Places.{has_row}
use Rattle.sheets.specs.Holdings.{plain_sheet, sheet_at}
use Rattle.sheets.specs.Contents.{Content, Sound, carries_of, sheet_of, row_for, row_at, rows_of, words_of_content, Says}
use Rattle.sheets.specs.Judging.{sourced, judged_head}
use Rattle.sheets.specs.Scanning.{Progress, opening, after, advanced_by, scanned}
use Rattle.sheets.specs.Reading.{read_of, answer_of, Left}
use Rattle.sheets.proofs.Alike.{alike, unlike}
use Rattle.sheets.proofs.Encoding.{Proper, word_back, bits_small, bits_back, Small, words_back, bytes_back, words_small}
use Rattle.sheets.proofs.Written.{bytes_length}
use Rattle.sheets.proofs.Soundness.{Good, Blank, read_off}
use Rattle.sheets.proofs.Completeness.{content, at_first, at_last, plain_weaker, read_through}
use Rattle.sheets.proofs.Taking.{head_no_row}

-- each of a list of words
abbrev pub Each : (Word → Type 0) → List Word → Type 0
Each P [] = Unit {0}
Each P (w ∷ ws) = P w × Each P ws

each_gathered : (P : Word → Type 0) (f : ℕ → Option Word) → ((p : ℕ) (w : Word) → p < 256 → f p ≡ Some w → P w) → (from m : ℕ) → from + m ≤ 256 → Each P (filter_map f (range_with_len from m))
each_gathered P f h from zero l = tt
each_gathered P f h from (suc m) l = go (f from) refl (each_gathered P f h (from + 1) m (omega arith))
  where
    go : (o : Option Word) → f from ≡ o → Each P (filter_map f (range_with_len (from + 1) m)) → Each P (cons_option o (filter_map f (range_with_len (from + 1) m)))
    go None e rest = rest
    go (Some w) e rest = (h from w (omega arith) e, rest)

row_proper : (k : SourceKind) (w l : ℕ) (fact : Option ℕ) (word : Word) → row_for k w l fact ≡ Some word → Proper word
row_proper Matrix w l fact word h = go (free fact) h
  where
    go : (b : Bool) → Some (cond b (Outcome w l) (Outcome l w)) ≡ Some word → Proper word
    go true e = let is : Outcome w l ≡ word = cc in subst Proper is tt
    go false e = let is : Outcome l w ≡ word = cc in subst Proper is tt
row_proper Order w l fact word h = go (free fact) h
  where
    go : (b : Bool) → cond b (Some (Upset w l)) None ≡ Some word → Proper word
    go true e = let is : Upset w l ≡ word = cc in subst Proper is tt
    go false e = absurd (cc)
row_proper Bribes w l fact word h = let is : Price w l (Some fact) ≡ word = cc in subst Proper is tt

row_fitting : (k : SourceKind) (w l : ℕ) (fact : Option ℕ) (word : Word) → w < 16 → l < 16 → over_top fact ≡ false → row_for k w l fact ≡ Some word → Fitting word
row_fitting Matrix w l fact word p q t h = go (free fact) h
  where
    go : (b : Bool) → Some (cond b (Outcome w l) (Outcome l w)) ≡ Some word → Fitting word
    go true e = let is : Outcome w l ≡ word = cc in subst Fitting is (p, q)
    go false e = let is : Outcome l w ≡ word = cc in subst Fitting is (q, p)
row_fitting Order w l fact word p q t h = go (free fact) h
  where
    go : (b : Bool) → cond b (Some (Upset w l)) None ≡ Some word → Fitting word
    go true e = let is : Upset w l ≡ word = cc in subst Fitting is (p, q)
    go false e = absurd (cc)
row_fitting Bribes w l None word p q t h = let is : Price w l (Some None) ≡ word = cc in subst Fitting is (p, q, tt)
row_fitting Bribes w l (Some x) word p q t h = let is : Price w l (Some (Some x)) ≡ word = cc in subst Fitting is (p, q, omega (arith, ltb-false 1000000 x t))

told : (P : Word → Type 0) (k : SourceKind) (n : ℕ) (beats : ℕ → ℕ → Option ℕ) (p : ℕ) (word : Word) → (has_row k n p ≡ true → row_for k (p / 16) (p % 16) (beats (p / 16) (p % 16)) ≡ Some word → P word) → row_at k n beats p ≡ Some word → P word
told P k n beats p word f h = go (has_row k n p) refl h
  where
    go : (b : Bool) → has_row k n p ≡ b → cond b (row_for k (p / 16) (p % 16) (beats (p / 16) (p % 16))) None ≡ Some word → P word
    go true e q = f e q
    go false e q = absurd (cc)

stands_meet : (k : SourceKind) (n p : ℕ) → has_row k n p ≡ true → opponents n (p / 16) (p % 16) ≡ true
stands_meet Matrix n p h = (and_parts (opponents n (p / 16) (p % 16)) (ltb (p / 16) (p % 16)) h).0
stands_meet Order n p h = (and_parts (opponents n (p / 16) (p % 16)) (ltb (p % 16) (p / 16)) h).0
stands_meet Bribes n p h = h

pub kind_small : (k : SourceKind) → kind_number k < 4
kind_small Matrix = omega arith
kind_small Order = omega arith
kind_small Bribes = omega arith

pub content_proper : (c : Content) → Each Proper (words_of_content c)
unfolding rows_of
content_proper c = (tt, each_gathered Proper (row_at c.kind c.size c.beats) (λ p w l h. told Proper c.kind c.size c.beats p w (λ s e. row_proper c.kind (p / 16) (p % 16) (c.beats (p / 16) (p % 16)) w e) h) 0 256 (omega arith))

pub row_fits : (k : SourceKind) (n : ℕ) (beats : ℕ → ℕ → Option ℕ) (p : ℕ) (word : Word) → legal n ≡ true → ((a b : ℕ) → opponents n a b ≡ true → over_top (beats a b) ≡ false) → row_at k n beats p ≡ Some word → Fitting word
row_fits k n beats p word leg top h =
    told Fitting k n beats p word
    (λ stands e. let o = stands_meet k n p stands in let m = met n (p / 16) (p % 16) o in let small = legal_small n leg in
    row_fitting k (p / 16) (p % 16) (beats (p / 16) (p % 16)) word (omega (arith, m.0)) (omega (arith, m.1)) (top (p / 16) (p % 16) o) e) h

pub content_fitting : (c : Content) → Sound c → Each Fitting (words_of_content c)
unfolding rows_of
content_fitting c sound =
    let small = legal_small c.size sound.size_legal in
    ((omega arith, kind_small c.kind), each_gathered Fitting (row_at c.kind c.size c.beats) (λ p w l h. row_fits c.kind c.size c.beats p w sound.size_legal sound.capped h) 0 256 (omega arith))

-- words to bits and back
words_bits : (ws : List Word) → Each Proper ws → Each Fitting ws → map word_of (map bits_of ws) ≡ ws
words_bits [] p f = refl
words_bits (w ∷ ws) (p, ps) (f, fs) = ap (λ x. x ∷ map word_of (map bits_of ws)) (word_back w p f) ∙ ap (λ xs. w ∷ xs) (words_bits ws ps fs)

bits_words : (bits : List ℕ) → Small bits → Each Proper (map word_of bits) → map bits_of (map word_of bits) ≡ bits
bits_words [] s p = refl
bits_words (b ∷ bs) (s, ss) (p, ps) = ap (λ x. x ∷ map bits_of (map word_of bs)) (bits_back b s p) ∙ ap (λ xs. b ∷ xs) (bits_words bs ss ps)

small_bits : (ws : List Word) → Each Fitting ws → Small (map bits_of ws)
small_bits [] f = tt
small_bits (w ∷ ws) (f, fs) = (bits_small w f, small_bits ws fs)

-- the plain sheets that a reader begins from
module _ (n : ℕ) (carries : ℕ → ℕ → Option ℕ → Option ℕ → Bool) (facts : Option ℕ × Option ℕ) where
  uniform_capped : over_top facts.0 ≡ false → over_top facts.1 ≡ false → (a b : ℕ) → over_top ((uniform_sheet carries n facts).beats a b) ≡ false
  uniform_capped x y a b = go (opponents n a b) (ltb a b)
    where
      go : (o t : Bool) → over_top (cond o (cond t facts (facts.1, facts.0)).0 None) ≡ false
      go true true = x
      go true false = y
      go false t = refl

  -- two opponents have one of them the lower number
  uniform_both : (P : Option ℕ → Option ℕ → Type 0) (a b : ℕ) → opponents n a b ≡ true → (ltb a b ≡ true → P facts.0 facts.1) → (ltb a b ≡ false → P facts.1 facts.0)
      → P ((uniform_sheet carries n facts).beats a b) ((uniform_sheet carries n facts).beats b a)
  uniform_both P a b o p q =
      let x = cond-true (opponents n a b) (turned a b facts).0 None o in
      let y = cond-true (opponents n b a) (turned b a facts).0 None (sym (met_back n a b) ∙ o) in
      let Q : Option ℕ → Type 0 = λ f. P f ((uniform_sheet carries n facts).beats b a) in
      let R : Option ℕ → Type 0 = λ g. P (turned a b facts).0 g in
      subst Q (sym x) (subst R (sym y) (go (ltb a b) (ltb b a) refl refl))
    where
      m : (a < n) × (b < n) × (a ≡ b → ⊥)
      m = met n a b o

      go : (s t : Bool) → ltb a b ≡ s → ltb b a ≡ t → P (cond s facts (facts.1, facts.0)).0 (cond t facts (facts.1, facts.0)).0
      go true true e f = absurd (omega (arith, ltb-true a b e, ltb-true b a f))
      go true false e f = p e
      go false true e f = q e
      go false false e f = absurd (m.2 (omega (arith, ltb-false a b e, ltb-false b a f)))

pub plain_good : (k : SourceKind) (n : ℕ) → legal n ≡ true → Good k (plain_sheet k n)
plain_good Matrix n leg =
    record {
      size_legal = leg;
      outside = λ a b h. cond-false (opponents n a b) _ None h;
      capped = uniform_capped n (carries_of Matrix) (Some 0, None) refl refl;
      carried = λ a b o. uniform_both n (carries_of Matrix) (Some 0, None) (λ f g. carries_of Matrix a b f g ≡ true) a b o (λ e. refl) (λ e. refl);
      carries = λ a b f g. refl;
    }
plain_good Order n leg =
    record {
      size_legal = leg;
      outside = λ a b h. cond-false (opponents n a b) _ None h;
      capped = uniform_capped n (carries_of Order) (Some 0, None) refl refl;
      carried = λ a b o. uniform_both n (carries_of Order) (Some 0, None) (λ f g. carries_of Order a b f g ≡ true) a b o (λ e. stronger a b o true e) (λ e. stronger a b o false e);
      carries = λ a b f g. refl;
    }
  where
    stronger : (a b : ℕ) → opponents n a b ≡ true → (t : Bool) → ltb a b ≡ t → ranked a b (cond t (Some 0) None) (cond t None (Some 0)) ≡ true
    stronger a b o t e =
        let m = met n a b o in
        ap (λ s. not (eqb a b) && (free (cond {A = Option ℕ × Option ℕ} s (cond t (Some 0) None, cond t None (Some 0)) (cond t None (Some 0), cond t (Some 0) None)).0 && plain (cond {A = Option ℕ × Option ℕ} s (cond t (Some 0) None, cond t None (Some 0)) (cond t None (Some 0), cond t (Some 0) None)).1)) e
        ∙ ap (λ x. not x && (free (cond {A = Option ℕ × Option ℕ} t (cond t (Some 0) None, cond t None (Some 0)) (cond t None (Some 0), cond t (Some 0) None)).0 && plain (cond {A = Option ℕ × Option ℕ} t (cond t (Some 0) None, cond t None (Some 0)) (cond t None (Some 0), cond t (Some 0) None)).1)) (ne_eqb a b m.2)
        ∙ go t
      where
        go : (t : Bool) → (true && (free (cond {A = Option ℕ × Option ℕ} t (cond t (Some 0) None, cond t None (Some 0)) (cond t None (Some 0), cond t (Some 0) None)).0 && plain (cond {A = Option ℕ × Option ℕ} t (cond t (Some 0) None, cond t None (Some 0)) (cond t None (Some 0), cond t (Some 0) None)).1)) ≡ true
        go true = refl
        go false = refl
plain_good Bribes n leg =
    record {
      size_legal = leg;
      outside = λ a b h. cond-false (opponents n a b) _ None h;
      capped = uniform_capped n (carries_of Bribes) (Some 0, Some 0) refl refl;
      carried = λ a b o. uniform_both n (carries_of Bribes) (Some 0, Some 0) (λ f g. carries_of Bribes a b f g ≡ true) a b o (λ e. refl) (λ e. refl);
      carries = λ a b f g. refl;
    }

pub plain_blank : (k : SourceKind) (n : ℕ) → Blank k (plain_sheet k n) 0
plain_blank Matrix n p l d h = absurd (both_ways (has_row Matrix n p) d h)
plain_blank Bribes n p l d h = absurd (both_ways (has_row Bribes n p) d h)
plain_blank Order n p l d h =
    let t = and_parts (opponents n (p / 16) (p % 16)) (ltb (p % 16) (p / 16)) h in
    ap free (plain_weaker n (p / 16) (p % 16) t.0 (ltb-true (p % 16) (p / 16) t.1))

plain_size : (k : SourceKind) (n : ℕ) → (plain_sheet k n).size ≡ n
plain_size Matrix n = refl
plain_size Order n = refl
plain_size Bribes n = refl

-- a kind has its own number
kind_named : (source : ℕ) (k : SourceKind) → kind_of source ≡ Ok k → source ≡ kind_number k
kind_named source k h = go (eqb source 0) (eqb source 1) (eqb source 2) refl refl refl h
  where
    go : (x y z : Bool) → eqb source 0 ≡ x → eqb source 1 ≡ y → eqb source 2 ≡ z → ◌≡◌ {A = Result SourceKind Refusal} (cond x (Ok Matrix) (cond y (Ok Order) (cond z (Ok Bribes) (Err SourceUnknown)))) (Ok k) → source ≡ kind_number k
    go true y z a b c q = let is : Matrix ≡ k = cc in eqb-true source 0 a ∙ ap kind_number is
    go false true z a b c q = let is : Order ≡ k = cc in eqb-true source 1 b ∙ ap kind_number is
    go false false true a b c q = let is : Bribes ≡ k = cc in eqb-true source 2 c ∙ ap kind_number is
    go false false false a b c q = absurd (cc)

-- a head that passes is the head of a content
pub head_of : (word : Word) (n : ℕ) (k : SourceKind) → judged_head word ≡ Ok (field n k) → (word ≡ Head n (kind_number k)) × (legal n ≡ true)
head_of (Price w l fact) n k h = absurd (cc)
head_of (Upset w l) n k h = absurd (cc)
head_of (Outcome w l) n k h = absurd (cc)
head_of Stray n k h = absurd (cc)
head_of (Head size source) n k h = go (legal size) (kind_of source) refl refl h
  where
    go : (g : Bool) (j : Result SourceKind Refusal) → legal size ≡ g → kind_of source ≡ j → ◌≡◌ {A = Result Said Refusal} (cond (not g) (Err SizeNotAllowed) (sourced size j)) (Ok (field n k))
        → (Head size source ≡ Head n (kind_number k)) × (legal n ≡ true)
    go false j a b q = absurd (cc)
    go true (Err e) a b q = absurd (cc)
    go true (Ok j) a b q =
        let x : size ≡ n = cc in
        let y : j ≡ k = cc in
        (ap (λ i. Head i source) x ∙ ap (λ i. Head n i) (kind_named source j b ∙ ap kind_number y), ap legal (sym x) ∙ a)

head_passes : (n : ℕ) (k : SourceKind) → legal n ≡ true → judged_head (Head n (kind_number k)) ≡ Ok (field n k)
head_passes n k leg = cond-false (not (legal n)) _ _ (not_from_true (legal n) leg) ∙ go k
  where
    go : (k : SourceKind) → sourced n (kind_of (kind_number k)) ≡ Ok (field n k)
    go Matrix = refl
    go Order = refl
    go Bribes = refl

-- what is accepted is said
pub sound_words : (ws : List Word) (p : Progress) → scanned opening ws 0 ≡ Ok p
    → (c : Content) × Sound c × (c.kind ≡ p.kind) × (ws ≡ words_of_content c) × SameSheet (sheet_of c) p.sheet
unfolding rows_of
sound_words [] p h = absurd (cc)
sound_words (w ∷ ws) p h = go (judged_head w) refl h
  where
    go : (j : Result Said Refusal) → judged_head w ≡ j
        → (elim (advanced_by opening j) as (λ _. Result Progress Misread) [ Ok q ↦ scanned q ws 1 | Err e ↦ Err (record { refusal = e; word = 0 }) ]) ≡ Ok p
        → (c : Content) × Sound c × (c.kind ≡ p.kind) × (w ∷ ws ≡ words_of_content c) × SameSheet (sheet_of c) p.sheet
    go (Err e) is q = absurd (cc)
    go (Ok (row a b facts)) is q = head_no_row w a b facts is
    go (Ok (field n k)) is q =
        let t = head_of w n k is in
        let r = read_off ws k (plain_sheet k n) 0 1 p (omega arith) (plain_good k n t.1) (plain_blank k n) q in
        let size : p.sheet.size ≡ n = r.size ∙ plain_size k n in (
          content k n p.sheet.beats,
          record {
            size_legal = t.1;
            carried = λ a b o. r.good.carried a b (ap (λ i. opponents i a b) size ∙ o);
            capped = λ a b o. r.good.capped a b;
          },
          sym r.kind,
          ap (λ x. x ∷ ws) t.0 ∙ ap (λ xs. Head n (kind_number k) ∷ xs) (r.words ∙ ap (λ i. filter_map (row_at k i p.sheet.beats) (range_with_len 0 256)) (plain_size k n)),
          record {
            size = sym size;
            beats = λ a b. inside a b (opponents n a b) refl (λ h. r.good.outside a b (ap (λ i. opponents i a b) size ∙ h));
            carries = λ a b f g. sym (r.good.carries a b f g);
          },
        )
      where
        inside : (a b : ℕ) (o : Bool) → opponents n a b ≡ o → (opponents n a b ≡ false → p.sheet.beats a b ≡ None) → cond (opponents n a b) (p.sheet.beats a b) None ≡ p.sheet.beats a b
        inside a b true e f = cond-true (opponents n a b) _ None e
        inside a b false e f = cond-false (opponents n a b) _ None e ∙ sym (f e)

-- what is said is accepted
pub complete_words : (c : Content) → Sound c → (p : Progress) × (scanned opening (words_of_content c) 0 ≡ Ok p) × (p.kind ≡ c.kind) × (p.sheet ≡ sheet_of c)
unfolding rows_of
complete_words c sound =
    let k = c.kind in
    let n = c.size in
    let rows = filter_map (row_at c.kind c.size c.beats) (range_with_len 0 256) in
    let t = read_through c.kind c.size c.beats sound 256 0 0 1 refl (omega arith) (λ q a b. absurd (omega arith)) in
    let P : Result Said Refusal → Type 0 = λ j. (elim (advanced_by opening j) as (λ _. Result Progress Misread) [ Ok q ↦ scanned q (filter_map (row_at c.kind c.size c.beats) (range_with_len 0 256)) 1 | Err e ↦ Err (record { refusal = e; word = 0 }) ]) ≡ Ok t.0 in (
      t.0,
      subst P (sym (head_passes c.size c.kind sound.size_legal)) (ap (λ s. scanned (after c.kind s 0) (filter_map (row_at c.kind c.size c.beats) (range_with_len 0 256)) 1) (sym (at_first c)) ∙ t.1),
      t.2,
      t.3 ∙ at_last c sound.size_legal,
    )

pub accepted : (bytes : List ℕ) → ((i : ℕ) → get_or bytes i 0 < 256) → (p : Progress) → read_of bytes ≡ Ok p → Says bytes p.kind p.sheet
accepted bytes small p h = go (eqb (length bytes) 0 || not (eqb (length bytes % 4) 0)) refl h
  where
    go : (b : Bool) → (eqb (length bytes) 0 || not (eqb (length bytes % 4) 0)) ≡ b
        → ◌≡◌ {A = Result Progress Misread} (cond b (Err (record { refusal = LengthNotWords; word = 0 })) (scanned opening (map word_of (words_of bytes)) 0)) (Ok p) → Says bytes p.kind p.sheet
    go true e q = absurd (cc)
    go false e q =
        let t = sound_words (map word_of (words_of bytes)) p q in
        let whole = eqb-true (length bytes % 4) 0 (not-false (eqb (length bytes % 4) 0) (or_parts (eqb (length bytes) 0) (not (eqb (length bytes % 4) 0)) e).1) in
        let proper = subst (Each Proper) (sym t.3) (content_proper t.0) in
        let bits = bits_words (words_of bytes) (words_small bytes small) proper in
        (t.0, t.1, t.2, sym (bytes_back bytes small whole) ∙ ap bytes_of (sym bits ∙ ap (map bits_of) t.3), t.4)

pub said : (bytes : List ℕ) (k : SourceKind) (s : Sheet) → Says bytes k s → (p : Progress) × (read_of bytes ≡ Ok p) × (p.kind ≡ k) × (p.sheet ≡ s)
said bytes k s (c, sound, kind, is, same) =
    let t = complete_words c sound in
    let fitting = content_fitting c sound in
    let bits = map bits_of (words_of_content c) in
    let words : map word_of (words_of bytes) ≡ words_of_content c =
    ap (λ b. map word_of (words_of b)) is ∙ ap (map word_of) (words_back (map bits_of (words_of_content c)) (small_bits (words_of_content c) fitting)) ∙ words_bits (words_of_content c) (content_proper c) fitting in
    let long : length bytes ≡ 4 * suc (length (map bits_of (rows_of c.kind c.size c.beats))) = ap length is ∙ bytes_length (map bits_of (words_of_content c)) in
    let right : (eqb (length bytes) 0 || not (eqb (length bytes % 4) 0)) ≡ false =
    or_from (eqb (length bytes) 0) (not (eqb (length bytes % 4) 0)) (ne_eqb (length bytes) 0 (λ e. omega (arith, long))) (not_from_true (eqb (length bytes % 4) 0) (eq-eqb (length bytes % 4) 0 (omega (arith, long)))) in (
      t.0,
      cond-false (eqb (length bytes) 0 || not (eqb (length bytes % 4) 0)) _ _ right ∙ ap (λ ws. scanned opening ws 0) words ∙ t.1,
      t.2 ∙ kind,
      t.3 ∙ alike (sheet_of c) s same,
    )

-- an answer of the reader, and the sources that it leaves
pub exactly : (bytes : List ℕ) → ((i : ℕ) → get_or bytes i 0 < 256) → (r : Result SourceKind Misread) (before after : Sources) → r ≡ answer_of (read_of bytes) → Left (read_of bytes) before after
    → ((k : SourceKind) (s : Sheet) → Says bytes k s → (r ≡ Ok k) × SameSheet (sheet_at k after) s) × ((k : SourceKind) → r ≡ Ok k → Says bytes k (sheet_at k after))
exactly bytes small r before after e h = (forth, λ k is. back (read_of bytes) refl e h k is)
  where
    forth : (k : SourceKind) (s : Sheet) → Says bytes k s → (r ≡ Ok k) × SameSheet (sheet_at k after) s
    forth k s says =
        let t = said bytes k s says in
        let left = subst (λ (o : Result Progress Misread). Left o before after) t.1 h in (
          e ∙ ap answer_of t.1 ∙ ap Ok t.2,
          unlike (sheet_at k after) s (ap (λ j. sheet_at j after) (sym t.2) ∙ alike (sheet_at t.0.kind after) t.0.sheet left.0 ∙ t.3),
        )

    back : (o : Result Progress Misread) → read_of bytes ≡ o → r ≡ answer_of o → Left o before after → (k : SourceKind) → r ≡ Ok k → Says bytes k (sheet_at k after)
    back (Err m) is a l k q = absurd (cc)
    back (Ok p) is a l k q =
        let kind : p.kind ≡ k = cc in
        let P : SourceKind → Type 0 = λ j. Says bytes j (sheet_at j after) in
        let Q : Sheet → Type 0 = λ s. Says bytes p.kind s in
        subst P kind (subst Q (sym (alike (sheet_at p.kind after) p.sheet l.0)) (accepted bytes small p is))
