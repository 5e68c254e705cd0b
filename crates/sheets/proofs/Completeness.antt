-- The words of a sound content are accepted. Assumes nothing.
use Rattle.std.proofs.Common.{◌≡◌, ℕ, zero, suc, ◌+◌, ◌-◌, ◌*◌, ◌/◌, ◌%◌, ◌<◌, ◌≤◌, min, max, Bool, true, false, cond, not, ◌&&◌, ◌||◌, eqb, ltb, ◌⊎◌, Some, None, Ok, Err, Option, Result, sym, refl, ap, ◌∙◌, subst, inl, inr, arith}
use Rattle.std.specs.List.{range_with_len, filter_map, cons_option}
use Rattle.std.proofs.lemmas.Bool.{and_parts, and_from, and_left, or_right, or_from, ltb-true, lt-ltb, le-ltb, eqb-true, eq-eqb, ne_eqb, not_from_true, both_ways, cond-true, cond-false, cases_eq, cases_lt}
use Rattle.std.proofs.lemmas.Bool.Decides.{nat_tests}
use Rattle.facts.specs.declared.refusals.Refusal.{Refusal}
use Rattle.facts.specs.declared.refusals.Refusal.TheVariants.{WordCountWrong}
use Rattle.facts.specs.Facts.{free, over_top}
use Rattle.facts.specs.Fields.{legal, opponents}
use Rattle.facts.specs.Sheets.{Sheet, amended}
use Rattle.sources.specs.Matrices.{certain}
use Rattle.sources.specs.Orders.{ranked, plain}
use Rattle.sources.specs.Held.{turned}
use Rattle.sources.specs.declared.kind.SourceKind.{SourceKind}
use Rattle.sources.specs.declared.kind.SourceKind.TheVariants.{Matrix, Order, Bribes}
use Rattle.sources.specs.Holding.{legal_small, met, met_back}
use Rattle.sheets.specs.declared.misread.Misread.{Misread}
use Rattle.sheets.specs.declared.words.Word.{Word}
use Rattle.sheets.specs.declared.words.Word.TheVariants.{Price, Upset, Outcome}
use Rattle.sheets.specs.declared.rows.Said.{Said}
use Rattle.sheets.specs.declared.rows.Said.TheVariants.{Row as row}
use Rattle.sheets.specs.Places.{has_row}
use Rattle.sheets.specs.Holdings.{plain_sheet}
use Rattle.sheets.specs.Contents.{Content, Sound, carries_of, sheet_of, row_for, row_at}
use Rattle.sheets.specs.Judging.{judged, judged_outcome, judged_upset, judged_price}
use Rattle.sheets.specs.Scanning.{Progress, outcome_at, price_at, awaited_from, after, advanced_by, complete, scanned}
use Rattle.sheets.proofs.Alike.{alike}
use Rattle.sheets.proofs.Stepping.{next_at, next_none}
use Rattle.sheets.proofs.Taking.{due}

-- the place of the row that tells what it takes for the first of two to win
abbrev pub told_at : SourceKind → ℕ → ℕ → ℕ
told_at Matrix a b = min a b * 16 + max a b
told_at Order a b = a * 16 + b
told_at Bribes a b = a * 16 + b

-- what a reader knows of a content once the rows before a place are read
abbrev pub partly : Content → ℕ → Sheet
partly c p =
    record {
      size = c.size;
      beats = λ a b. cond (opponents c.size a b) (cond (ltb (told_at c.kind a b) p) (c.beats a b) ((plain_sheet c.kind c.size).beats a b)) None;
      carries = carries_of c.kind;
    }

told_below : (k : SourceKind) (n a b : ℕ) → legal n ≡ true → opponents n a b ≡ true → told_at k a b < 256
told_below k n a b leg o = go k
  where
    m : (a < n) × (b < n) × (a ≡ b → ⊥)
    m = met n a b o

    small : n ≤ 16
    small = legal_small n leg

    go : (k : SourceKind) → told_at k a b < 256
    go Matrix = omega (arith, m.0, m.1, small)
    go Order = omega (arith, m.0, m.1, small)
    go Bribes = omega (arith, m.0, m.1, small)

pub at_first : (c : Content) → partly c 0 ≡ plain_sheet c.kind c.size
at_first c = alike (partly c 0) (plain_sheet c.kind c.size) (record { size = size_is c.kind; beats = λ a b. go a b c.kind (opponents c.size a b) refl; carries = carries_are c.kind })
  where
    size_is : (k : SourceKind) → c.size ≡ (plain_sheet k c.size).size
    size_is Matrix = refl
    size_is Order = refl
    size_is Bribes = refl

    carries_are : (k : SourceKind) (a b : ℕ) (f g : Option ℕ) → carries_of k a b f g ≡ (plain_sheet k c.size).carries a b f g
    carries_are Matrix a b f g = refl
    carries_are Order a b f g = refl
    carries_are Bribes a b f g = refl

    outside : (k : SourceKind) (a b : ℕ) → opponents c.size a b ≡ false → None ≡ (plain_sheet k c.size).beats a b
    outside Matrix a b h = sym (cond-false (opponents c.size a b) _ None h)
    outside Order a b h = sym (cond-false (opponents c.size a b) _ None h)
    outside Bribes a b h = sym (cond-false (opponents c.size a b) _ None h)

    go : (a b : ℕ) (k : SourceKind) (o : Bool) → opponents c.size a b ≡ o → cond (opponents c.size a b) (cond (ltb (told_at k a b) 0) (c.beats a b) ((plain_sheet k c.size).beats a b)) None ≡ (plain_sheet k c.size).beats a b
    go a b k true h = cond-true (opponents c.size a b) _ None h ∙ cond-false (ltb (told_at k a b) 0) _ _ (le-ltb (told_at k a b) 0 (omega arith))
    go a b k false h = cond-false (opponents c.size a b) _ None h ∙ outside k a b h

pub at_last : (c : Content) → legal c.size ≡ true → partly c 256 ≡ sheet_of c
at_last c leg = alike (partly c 256) (sheet_of c) (record { size = refl; beats = λ a b. go a b (opponents c.size a b) refl; carries = λ a b f g. refl })
  where
    go : (a b : ℕ) (o : Bool) → opponents c.size a b ≡ o → (partly c 256).beats a b ≡ cond (opponents c.size a b) (c.beats a b) None
    go a b true h = ap (λ x. cond (opponents c.size a b) x None) (cond-true (ltb (told_at c.kind a b) 256) _ _ (lt-ltb (told_at c.kind a b) 256 (told_below c.kind c.size a b leg h)))
    go a b false h = cond-false (opponents c.size a b) _ None h ∙ sym (cond-false (opponents c.size a b) _ None h)

-- a place that tells nothing of two entrants leaves what is known of them
unmoved : (c : Content) (p a b : ℕ) → (told_at c.kind a b ≡ p → ⊥) → (partly c p).beats a b ≡ (partly c (p + 1)).beats a b
unmoved c p a b ne = ap (λ t. cond (opponents c.size a b) (cond t (c.beats a b) ((plain_sheet c.kind c.size).beats a b)) None) (same (told_at c.kind a b) ne)
  where
    same : (x : ℕ) → (x ≡ p → ⊥) → ltb x p ≡ ltb x (p + 1)
    same x ne = grind (arith, nat_tests)

-- the plain facts of an order
pub plain_weaker : (n a b : ℕ) → opponents n a b ≡ true → b < a → (plain_sheet Order n).beats a b ≡ None
plain_weaker n a b o h = cond-true (opponents n a b) _ None o ∙ ap (λ t. (cond {A = Option ℕ × Option ℕ} t (Some 0, None) (None, Some 0)).0) (le-ltb a b (omega arith))

plain_stronger : (n a b : ℕ) → opponents n a b ≡ true → a < b → (plain_sheet Order n).beats a b ≡ Some 0
plain_stronger n a b o h = cond-true (opponents n a b) _ None o ∙ ap (λ t. (cond {A = Option ℕ × Option ℕ} t (Some 0, None) (None, Some 0)).0) (lt-ltb a b h)

free_is : (f : Option ℕ) → free f ≡ true → f ≡ Some 0
free_is None h = absurd (cc)
free_is (Some x) h = ap {B = Option ℕ} (λ (i : ℕ). Some i) (eqb-true x 0 h)

unfree_plain : (f : Option ℕ) → plain f ≡ true → free f ≡ false → f ≡ None
unfree_plain None h k = refl
unfree_plain (Some x) h k = absurd (both_ways (eqb x 0) k h)

-- of a content that is an order: the stronger wins free, the weaker free or never
ranked_stronger : (a b : ℕ) (f g : Option ℕ) → a < b → ranked a b f g ≡ true → (f ≡ Some 0) × (plain g ≡ true)
ranked_stronger a b f g h k =
    let t = and_parts (not (eqb a b)) (free (turned a b (f, g)).0 && plain (turned a b (f, g)).1) k in
    go (ltb a b) (lt-ltb a b h) t.1
  where
    go : (t : Bool) → t ≡ true → (free (cond {A = Option ℕ × Option ℕ} t (f, g) (g, f)).0 && plain (cond {A = Option ℕ × Option ℕ} t (f, g) (g, f)).1) ≡ true → (f ≡ Some 0) × (plain g ≡ true)
    go true e u = let p = and_parts (free f) (plain g) u in (free_is f p.0, p.1)
    go false e u = absurd (cc)

ranked_weaker : (a b : ℕ) (f g : Option ℕ) → b < a → ranked a b f g ≡ true → (g ≡ Some 0) × (plain f ≡ true)
ranked_weaker a b f g h k =
    let t = and_parts (not (eqb a b)) (free (turned a b (f, g)).0 && plain (turned a b (f, g)).1) k in
    go (ltb a b) (le-ltb a b (omega arith)) t.1
  where
    go : (t : Bool) → t ≡ false → (free (cond {A = Option ℕ × Option ℕ} t (f, g) (g, f)).0 && plain (cond {A = Option ℕ × Option ℕ} t (f, g) (g, f)).1) ≡ true → (g ≡ Some 0) × (plain f ≡ true)
    go true e u = absurd (cc)
    go false e u = let p = and_parts (free g) (plain f) u in (free_is g p.0, p.1)

abbrev pub content : SourceKind → ℕ → (ℕ → ℕ → Option ℕ) → Content
content k n beats = record { kind = k; size = n; beats = beats }

-- a pairing is told by a row that can stand where it is told, but for the stronger side of an order
told_row : (n a b p : ℕ) → legal n ≡ true → opponents n a b ≡ true → a * 16 + b ≡ p → (p / 16 ≡ a) × (p % 16 ≡ b)
told_row n a b p leg o e =
    let m = met n a b o in
    let small = legal_small n leg in
    (omega (arith, m.1, small), omega (arith, m.1, small))

module _ (c : Content) (p : ℕ) where
  -- where the rows told at a place say what is plain, the place changes nothing
  quiet : ((a b : ℕ) → opponents c.size a b ≡ true → told_at c.kind a b ≡ p → c.beats a b ≡ (plain_sheet c.kind c.size).beats a b) → partly c p ≡ partly c (p + 1)
  quiet h = alike (partly c p) (partly c (p + 1)) (record { size = refl; beats = λ a b. go a b (opponents c.size a b) refl (cases_eq (told_at c.kind a b) p); carries = λ a b f g. refl })
    where
      go : (a b : ℕ) (o : Bool) → opponents c.size a b ≡ o → (told_at c.kind a b ≡ p) ⊎ (told_at c.kind a b ≡ p → ⊥) → (partly c p).beats a b ≡ (partly c (p + 1)).beats a b
      go a b o e (inr ne) = unmoved c p a b ne
      go a b false e (inl is) = cond-false (opponents c.size a b) _ None e ∙ sym (cond-false (opponents c.size a b) _ None e)
      go a b true e (inl is) =
          ap (λ x. cond (opponents c.size a b) x None)
          (cond-false (ltb (told_at c.kind a b) p) _ _ (le-ltb (told_at c.kind a b) p (omega arith)) ∙ sym (h a b e is)
          ∙ sym (cond-true (ltb (told_at c.kind a b) (p + 1)) _ _ (lt-ltb (told_at c.kind a b) (p + 1) (omega arith))))

  -- what is known once the row of a pairing is read
  known_after : (a b : ℕ) → opponents c.size a b ≡ true → told_at c.kind a b ≡ p → (partly c (p + 1)).beats a b ≡ c.beats a b
  known_after a b o is = cond-true (opponents c.size a b) _ None o ∙ cond-true (ltb (told_at c.kind a b) (p + 1)) _ _ (lt-ltb (told_at c.kind a b) (p + 1) (omega arith))

  -- a row puts in what its place tells
  moved_on : (w l : ℕ) (facts : Option ℕ × Option ℕ) → facts.0 ≡ (partly c (p + 1)).beats w l → facts.1 ≡ (partly c (p + 1)).beats l w
      → ((a b : ℕ) → opponents c.size a b ≡ true → told_at c.kind a b ≡ p → ((a ≡ w) × (b ≡ l)) ⊎ ((a ≡ l) × (b ≡ w)))
      → amended (partly c p) w l facts ≡ partly c (p + 1)
  moved_on w l facts forth back alone = alike (amended (partly c p) w l facts) (partly c (p + 1)) (record { size = refl; beats = λ a b. go a b (eqb a w && eqb b l) (eqb a l && eqb b w) refl refl; carries = λ a b f g. refl })
    where
      other : (a b : ℕ) → (eqb a w && eqb b l) ≡ false → (eqb a l && eqb b w) ≡ false → (o : Bool) → opponents c.size a b ≡ o → (told_at c.kind a b ≡ p) ⊎ (told_at c.kind a b ≡ p → ⊥) → (partly c p).beats a b ≡ (partly c (p + 1)).beats a b
      other a b x y o e (inr ne) = unmoved c p a b ne
      other a b x y false e (inl is) = cond-false (opponents c.size a b) _ None e ∙ sym (cond-false (opponents c.size a b) _ None e)
      other a b x y true e (inl is) =
          elim (alone a b e is) [
            | inl q ↦ absurd (both_ways (eqb a w && eqb b l) x (and_from (eqb a w) (eqb b l) (eq-eqb a w q.0) (eq-eqb b l q.1)))
            | inr q ↦ absurd (both_ways (eqb a l && eqb b w) y (and_from (eqb a l) (eqb b w) (eq-eqb a l q.0) (eq-eqb b w q.1)))
          ]

      go : (a b : ℕ) (x y : Bool) → (eqb a w && eqb b l) ≡ x → (eqb a l && eqb b w) ≡ y → cond x facts.0 (cond y facts.1 ((partly c p).beats a b)) ≡ (partly c (p + 1)).beats a b
      go a b true y e f =
          let q = and_parts (eqb a w) (eqb b l) e in
          forth ∙ ap (λ i. (partly c (p + 1)).beats i l) (sym (eqb-true a w q.0)) ∙ ap (λ i. (partly c (p + 1)).beats a i) (sym (eqb-true b l q.1))
      go a b false true e f =
          let q = and_parts (eqb a l) (eqb b w) f in
          back ∙ ap (λ i. (partly c (p + 1)).beats i w) (sym (eqb-true a l q.0)) ∙ ap (λ i. (partly c (p + 1)).beats a i) (sym (eqb-true b w q.1))
      go a b false false e f = other a b e f (opponents c.size a b) refl (cases_eq (told_at c.kind a b) p)

-- a place with no row changes nothing, and none is due there
pub passed_over : (k : SourceKind) (n : ℕ) (beats : ℕ → ℕ → Option ℕ) → Sound (content k n beats) → (p : ℕ) → row_at k n beats p ≡ None
    → (partly (content k n beats) p ≡ partly (content k n beats) (p + 1)) × (due k n p ≡ false)
passed_over Bribes n beats sound p h = go (has_row Bribes n p) refl h
  where
    go : (b : Bool) → has_row Bribes n p ≡ b → cond b (row_for Bribes (p / 16) (p % 16) (beats (p / 16) (p % 16))) None ≡ None → (partly (content Bribes n beats) p ≡ partly (content Bribes n beats) (p + 1)) × (has_row Bribes n p ≡ false)
    go true e q = absurd (cc)
    go false e q = (
      quiet (content Bribes n beats) p (λ a b o is. absurd (let t = told_row n a b p sound.size_legal o is in
          both_ways (opponents n (p / 16) (p % 16)) e (ap (λ i. opponents n i (p % 16)) t.0 ∙ ap (opponents n a) t.1 ∙ o))),
      e,
    )
passed_over Matrix n beats sound p h = go (has_row Matrix n p) refl h
  where
    stands : (a b : ℕ) → opponents n a b ≡ true → a < b → a * 16 + b ≡ p → has_row Matrix n p ≡ true
    stands a b o l is =
        let t = told_row n a b p sound.size_legal o is in
        and_from (opponents n (p / 16) (p % 16)) (ltb (p / 16) (p % 16)) (ap (λ i. opponents n i (p % 16)) t.0 ∙ ap (opponents n a) t.1 ∙ o) (lt-ltb (p / 16) (p % 16) (omega (arith, t.0, t.1)))

    either : (a b : ℕ) → opponents n a b ≡ true → min a b * 16 + max a b ≡ p → (a < b) ⊎ (b ≤ a) → has_row Matrix n p ≡ true
    either a b o is (inl l) = stands a b o l (omega arith)
    either a b o is (inr l) = let m = met n a b o in stands b a (sym (met_back n a b) ∙ o) (omega (arith, m.2)) (omega arith)

    go : (b : Bool) → has_row Matrix n p ≡ b → cond b (row_for Matrix (p / 16) (p % 16) (beats (p / 16) (p % 16))) None ≡ None → (partly (content Matrix n beats) p ≡ partly (content Matrix n beats) (p + 1)) × (has_row Matrix n p ≡ false)
    go true e q = absurd (cc)
    go false e q = (quiet (content Matrix n beats) p (λ a b o is. absurd (both_ways (has_row Matrix n p) e (either a b o is (cases_lt a b)))), e)
passed_over Order n beats sound p h = (quiet (content Order n beats) p (λ a b o is. go a b o is (cases_lt a b)), refl)
  where
    unmarked : (b : Bool) (fact : Option ℕ) → b ≡ true → cond b (cond (free fact) (Some (Upset (p / 16) (p % 16))) None) None ≡ None → free fact ≡ false
    unmarked true fact e q = no_mark (free fact) q
      where
        no_mark : (f : Bool) → cond f (Some (Upset (p / 16) (p % 16))) None ≡ None → f ≡ false
        no_mark true r = absurd (cc)
        no_mark false r = refl
    unmarked false fact e q = absurd (cc)

    go : (a b : ℕ) → opponents n a b ≡ true → a * 16 + b ≡ p → (a < b) ⊎ (b ≤ a) → beats a b ≡ (plain_sheet Order n).beats a b
    go a b o is (inl l) = (ranked_stronger a b (beats a b) (beats b a) l (sound.carried a b o)).0 ∙ sym (plain_stronger n a b o l)
    go a b o is (inr l) =
        let m = met n a b o in
        let weaker : b < a = omega (arith, m.2) in
        let t = told_row n a b p sound.size_legal o is in
        let stands = and_from (opponents n (p / 16) (p % 16)) (ltb (p % 16) (p / 16)) (ap (λ i. opponents n i (p % 16)) t.0 ∙ ap (opponents n a) t.1 ∙ o) (lt-ltb (p % 16) (p / 16) (omega (arith, t.0, t.1))) in
        let unfree : free (beats a b) ≡ false = ap (λ i. free (beats i b)) (sym t.0) ∙ ap (λ i. free (beats (p / 16) i)) (sym t.1) ∙ unmarked (has_row Order n p) (beats (p / 16) (p % 16)) stands h in
        unfree_plain (beats a b) (ranked_weaker a b (beats a b) (beats b a) weaker (sound.carried a b o)).1 unfree ∙ sym (plain_weaker n a b o weaker)

-- a row that a reader takes at its place, and what it then knows
pub record Taken-in (k : SourceKind) (n : ℕ) (beats : ℕ → ℕ → Option ℕ) (from p : ℕ) (word : Word) : Type 0 where
  pub facts : Option ℕ × Option ℕ
  pub says : judged n (awaited_from k (partly (content k n beats) p) from) word ≡ Ok (row (p / 16) (p % 16) facts)
  pub puts : amended (partly (content k n beats) p) (p / 16) (p % 16) facts ≡ partly (content k n beats) (p + 1)

certain_free : (f g : Option ℕ) → certain f g ≡ true → free f ≡ true → ◌≡◌ {A = Option ℕ × Option ℕ} (Some 0, None) (f, g)
certain_free None None h k = absurd (cc)
certain_free None (Some y) h k = absurd (cc)
certain_free (Some x) None h k = ap (λ i. (i, None)) (sym (free_is (Some x) k))
certain_free (Some x) (Some y) h k = absurd (cc)

certain_unfree : (f g : Option ℕ) → certain f g ≡ true → free f ≡ false → ◌≡◌ {A = Option ℕ × Option ℕ} (None, Some 0) (f, g)
certain_unfree None None h k = absurd (cc)
certain_unfree None (Some y) h k = ap (λ i. (None, i)) (sym (free_is (Some y) h))
certain_unfree (Some x) None h k = absurd (both_ways (eqb x 0) k h)
certain_unfree (Some x) (Some y) h k = absurd (cc)

module _ (n : ℕ) (beats : ℕ → ℕ → Option ℕ) (from p : ℕ) (word : Word) (behind : from ≤ p) (inside : p < 256) where
  matrix_in : Sound (content Matrix n beats) → ((q : ℕ) → from ≤ q → q < p → has_row Matrix n q ≡ false) → has_row Matrix n p ≡ true
      → Some (cond (free (beats (p / 16) (p % 16))) (Outcome (p / 16) (p % 16)) (Outcome (p % 16) (p / 16))) ≡ Some word → Taken-in Matrix n beats from p word
  matrix_in sound none stands is = go (free (beats (p / 16) (p % 16))) refl is
    where
      s : Sheet
      s = partly (content Matrix n beats) p

      parts : (opponents n (p / 16) (p % 16) ≡ true) × (ltb (p / 16) (p % 16) ≡ true)
      parts = and_parts (opponents n (p / 16) (p % 16)) (ltb (p / 16) (p % 16)) stands

      lower : p / 16 < p % 16
      lower = ltb-true (p / 16) (p % 16) parts.1

      waits : awaited_from Matrix (partly (content Matrix n beats) p) from ≡ outcome_at (Some p)
      waits = ap outcome_at (next_at Matrix n (p - from) from p (omega arith) inside none stands)

      back : opponents n (p % 16) (p / 16) ≡ true
      back = sym (met_back n (p / 16) (p % 16)) ∙ parts.0

      told : told_at Matrix (p / 16) (p % 16) ≡ p
      told = let l = lower in omega arith

      told_back : told_at Matrix (p % 16) (p / 16) ≡ p
      told_back = let l = lower in omega arith

      sure : certain (beats (p / 16) (p % 16)) (beats (p % 16) (p / 16)) ≡ true
      sure = sound.carried (p / 16) (p % 16) parts.0

      alone : (a b : ℕ) → opponents n a b ≡ true → told_at Matrix a b ≡ p → ((a ≡ p / 16) × (b ≡ p % 16)) ⊎ ((a ≡ p % 16) × (b ≡ p / 16))
      alone a b o e =
          let m = met n a b o in
          let small = legal_small n sound.size_legal in
          elim (cases_lt a b) [ inl l ↦ inl (omega (arith, m.1), omega (arith, m.1)) | inr l ↦ inr (omega (arith, m.0), omega (arith, m.0)) ]

      put : (facts : Option ℕ × Option ℕ) → facts ≡ (beats (p / 16) (p % 16), beats (p % 16) (p / 16)) → amended (partly (content Matrix n beats) p) (p / 16) (p % 16) facts ≡ partly (content Matrix n beats) (p + 1)
      put facts e =
          moved_on (content Matrix n beats) p (p / 16) (p % 16) facts
          (ap (λ (f : Option ℕ × Option ℕ). f.0) e ∙ sym (known_after (content Matrix n beats) p (p / 16) (p % 16) parts.0 told))
          (ap (λ (f : Option ℕ × Option ℕ). f.1) e ∙ sym (known_after (content Matrix n beats) p (p % 16) (p / 16) back told_back))
          alone

      go : (b : Bool) → free (beats (p / 16) (p % 16)) ≡ b → Some (cond b (Outcome (p / 16) (p % 16)) (Outcome (p % 16) (p / 16))) ≡ Some word → Taken-in Matrix n beats from p word
      go true e q =
          let w : Outcome (p / 16) (p % 16) ≡ word = cc in
          record {
            facts = (Some 0, None);
            says = ap (λ a. judged n a word) waits ∙ ap (judged_outcome n (p / 16) (p % 16)) (sym w)
                ∙ cond-false (not (opponents n (p / 16) (p % 16))) _ _ (not_from_true (opponents n (p / 16) (p % 16)) parts.0)
                ∙ cond-true (eqb (p / 16) (p / 16) && eqb (p % 16) (p % 16)) _ _ (and_from (eqb (p / 16) (p / 16)) (eqb (p % 16) (p % 16)) (eq-eqb (p / 16) (p / 16) refl) (eq-eqb (p % 16) (p % 16) refl));
            puts = put (Some 0, None) (certain_free (beats (p / 16) (p % 16)) (beats (p % 16) (p / 16)) sure e);
          }
      go false e q =
          let w : Outcome (p % 16) (p / 16) ≡ word = cc in
          record {
            facts = (None, Some 0);
            says = ap (λ a. judged n a word) waits ∙ ap (judged_outcome n (p / 16) (p % 16)) (sym w)
                ∙ cond-false (not (opponents n (p % 16) (p / 16))) _ _ (not_from_true (opponents n (p % 16) (p / 16)) back)
                ∙ cond-false (eqb (p % 16) (p / 16) && eqb (p / 16) (p % 16)) _ _ (and_left (eqb (p % 16) (p / 16)) (eqb (p / 16) (p % 16)) (ne_eqb (p % 16) (p / 16) (λ h. let l = lower in omega arith)))
                ∙ cond-true (eqb (p % 16) (p % 16) && eqb (p / 16) (p / 16)) _ _ (and_from (eqb (p % 16) (p % 16)) (eqb (p / 16) (p / 16)) (eq-eqb (p % 16) (p % 16) refl) (eq-eqb (p / 16) (p / 16) refl));
            puts = put (None, Some 0) (certain_unfree (beats (p / 16) (p % 16)) (beats (p % 16) (p / 16)) sure e);
          }

  order_in : Sound (content Order n beats) → has_row Order n p ≡ true → cond (free (beats (p / 16) (p % 16))) (Some (Upset (p / 16) (p % 16))) None ≡ Some word → Taken-in Order n beats from p word
  order_in sound stands is = go (free (beats (p / 16) (p % 16))) refl is
    where
      parts : (opponents n (p / 16) (p % 16) ≡ true) × (ltb (p % 16) (p / 16) ≡ true)
      parts = and_parts (opponents n (p / 16) (p % 16)) (ltb (p % 16) (p / 16)) stands

      weaker : p % 16 < p / 16
      weaker = ltb-true (p % 16) (p / 16) parts.1

      back : opponents n (p % 16) (p / 16) ≡ true
      back = sym (met_back n (p / 16) (p % 16)) ∙ parts.0

      stronger_free : (t : Bool) → cond t (beats (p % 16) (p / 16)) ((plain_sheet Order n).beats (p % 16) (p / 16)) ≡ Some 0
      stronger_free true = (ranked_stronger (p % 16) (p / 16) (beats (p % 16) (p / 16)) (beats (p / 16) (p % 16)) weaker (sound.carried (p % 16) (p / 16) back)).0
      stronger_free false = plain_stronger n (p % 16) (p / 16) back weaker

      go : (b : Bool) → free (beats (p / 16) (p % 16)) ≡ b → cond b (Some (Upset (p / 16) (p % 16))) None ≡ Some word → Taken-in Order n beats from p word
      go false e q = absurd (cc)
      go true e q =
          let w : Upset (p / 16) (p % 16) ≡ word = cc in
          record {
            facts = (Some 0, Some 0);
            says = ap (judged_upset n from) (sym w)
                ∙ cond-false (not (opponents n (p / 16) (p % 16))) _ _ (not_from_true (opponents n (p / 16) (p % 16)) parts.0)
                ∙ cond-false (ltb (p / 16) (p % 16) || ltb (p / 16 * 16 + p % 16) from) _ _ (or_from (ltb (p / 16) (p % 16)) (ltb (p / 16 * 16 + p % 16) from) (le-ltb (p / 16) (p % 16) (let l = weaker in omega arith)) (le-ltb (p / 16 * 16 + p % 16) from (omega arith)));
            puts = moved_on (content Order n beats) p (p / 16) (p % 16) (Some 0, Some 0)
                (sym (known_after (content Order n beats) p (p / 16) (p % 16) parts.0 (omega arith) ∙ free_is (beats (p / 16) (p % 16)) e))
                (sym (cond-true (opponents n (p % 16) (p / 16)) _ None back ∙ stronger_free (ltb (p % 16 * 16 + p / 16) (p + 1))))
                (λ a b o h. inl (let m = met n a b o in let small = legal_small n sound.size_legal in (omega (arith, m.1), omega (arith, m.1))));
          }

  bribe_in : Sound (content Bribes n beats) → ((q : ℕ) → from ≤ q → q < p → has_row Bribes n q ≡ false) → has_row Bribes n p ≡ true
      → Some (Price (p / 16) (p % 16) (Some (beats (p / 16) (p % 16)))) ≡ Some word → Taken-in Bribes n beats from p word
  bribe_in sound none stands is =
      record {
        facts = (beats (p / 16) (p % 16), (partly (content Bribes n beats) p).beats (p % 16) (p / 16));
        says = ap (λ a. judged n a word) waits ∙ ap (judged_price n (p / 16) (p % 16) other) (sym w) ∙ price (beats (p / 16) (p % 16)) (sound.capped (p / 16) (p % 16) stands) free_side;
        puts = moved_on (content Bribes n beats) p (p / 16) (p % 16) (beats (p / 16) (p % 16), (partly (content Bribes n beats) p).beats (p % 16) (p / 16))
            (sym (known_after (content Bribes n beats) p (p / 16) (p % 16) stands (omega arith)))
            (unmoved (content Bribes n beats) p (p % 16) (p / 16) (λ h. differ (omega arith)))
            (λ a b o h. inl (let m = met n a b o in let small = legal_small n sound.size_legal in (omega (arith, m.1), omega (arith, m.1))));
      }
    where
      differ : p / 16 ≡ p % 16 → ⊥
      differ = (met n (p / 16) (p % 16) stands).2

      other : Option ℕ
      other = (partly (content Bribes n beats) p).beats (p % 16) (p / 16)

      w : Price (p / 16) (p % 16) (Some (beats (p / 16) (p % 16))) ≡ word
      w = cc

      waits : awaited_from Bribes (partly (content Bribes n beats) p) from ≡ price_at (partly (content Bribes n beats) p) (Some p)
      waits = ap (price_at (partly (content Bribes n beats) p)) (next_at Bribes n (p - from) from p (omega arith) inside none stands)

      back : opponents n (p % 16) (p / 16) ≡ true
      back = sym (met_back n (p / 16) (p % 16)) ∙ stands

      plain_free : (plain_sheet Bribes n).beats (p % 16) (p / 16) ≡ Some 0
      plain_free = cond-true (opponents n (p % 16) (p / 16)) _ None back ∙ either (ltb (p % 16) (p / 16))
        where
          either : (t : Bool) → (cond {A = Option ℕ × Option ℕ} t (Some 0, Some 0) (Some 0, Some 0)).0 ≡ Some 0
          either true = refl
          either false = refl

      free_side : (free (beats (p / 16) (p % 16)) || free ((partly (content Bribes n beats) p).beats (p % 16) (p / 16))) ≡ true
      free_side =
          ap (λ o. free (beats (p / 16) (p % 16)) || free o) (cond-true (opponents n (p % 16) (p / 16)) _ None back) ∙ go (ltb (p % 16 * 16 + p / 16) p)
        where
          go : (t : Bool) → (free (beats (p / 16) (p % 16)) || free (cond t (beats (p % 16) (p / 16)) ((plain_sheet Bribes n).beats (p % 16) (p / 16)))) ≡ true
          go true = sound.carried (p / 16) (p % 16) stands
          go false = or_right (free (beats (p / 16) (p % 16))) (free ((plain_sheet Bribes n).beats (p % 16) (p / 16))) (ap free plain_free)

      entrants : (eqb (p / 16) (p / 16) && eqb (p % 16) (p % 16)) ≡ true
      entrants = and_from (eqb (p / 16) (p / 16)) (eqb (p % 16) (p % 16)) (eq-eqb (p / 16) (p / 16) refl) (eq-eqb (p % 16) (p % 16) refl)

      price : (f : Option ℕ) → over_top f ≡ false → (free f || free ((partly (content Bribes n beats) p).beats (p % 16) (p / 16))) ≡ true
          → judged_price n (p / 16) (p % 16) ((partly (content Bribes n beats) p).beats (p % 16) (p / 16)) (Price (p / 16) (p % 16) (Some f)) ≡ Ok (row (p / 16) (p % 16) (f, (partly (content Bribes n beats) p).beats (p % 16) (p / 16)))
      price f h u =
          cond-false (not (opponents n (p / 16) (p % 16))) _ _ (not_from_true (opponents n (p / 16) (p % 16)) stands)
          ∙ cond-false (not (eqb (p / 16) (p / 16) && eqb (p % 16) (p % 16))) _ _ (not_from_true (eqb (p / 16) (p / 16) && eqb (p % 16) (p % 16)) entrants)
          ∙ cond-false (over_top f) _ _ h
          ∙ cond-false (not (free f || free ((partly (content Bribes n beats) p).beats (p % 16) (p / 16)))) _ _ (not_from_true (free f || free ((partly (content Bribes n beats) p).beats (p % 16) (p / 16))) u)

-- a row that is told stands where rows can
told_stands : (k : SourceKind) (n p : ℕ) (beats : ℕ → ℕ → Option ℕ) (word : Word) → row_at k n beats p ≡ Some word → (has_row k n p ≡ true) × (row_for k (p / 16) (p % 16) (beats (p / 16) (p % 16)) ≡ Some word)
told_stands k n p beats word h = go (has_row k n p) refl h
  where
    go : (b : Bool) → has_row k n p ≡ b → cond b (row_for k (p / 16) (p % 16) (beats (p / 16) (p % 16))) None ≡ Some word → (has_row k n p ≡ true) × (row_for k (p / 16) (p % 16) (beats (p / 16) (p % 16)) ≡ Some word)
    go true e q = (e, q)
    go false e q = absurd (cc)

taken_in : (k : SourceKind) (n : ℕ) (beats : ℕ → ℕ → Option ℕ) → Sound (content k n beats) → (from p : ℕ) (word : Word) → from ≤ p → p < 256 → ((q : ℕ) → from ≤ q → q < p → due k n q ≡ false)
    → row_at k n beats p ≡ Some word → Taken-in k n beats from p word
taken_in Matrix n beats sound from p word l r none h = let t = told_stands Matrix n p beats word h in matrix_in n beats from p word l r sound none t.0 t.1
taken_in Order n beats sound from p word l r none h = let t = told_stands Order n p beats word h in order_in n beats from p word l r sound t.0 t.1
taken_in Bribes n beats sound from p word l r none h = let t = told_stands Bribes n p beats word h in bribe_in n beats from p word l r sound none t.0 t.1

-- where no row is due any more, the words may end
may_end : (k : SourceKind) (s : Sheet) (from : ℕ) → from ≤ 256 → ((q : ℕ) → from ≤ q → q < 256 → due k s.size q ≡ false) → complete (awaited_from k s from) ≡ true
may_end Matrix s from l none = ap (λ o. complete (outcome_at o)) (next_none Matrix s.size (256 - from) from (omega arith) none)
may_end Order s from l none = refl
may_end Bribes s from l none = ap (λ o. complete (price_at s o)) (next_none Bribes s.size (256 - from) from (omega arith) none)

-- the scan of what is left of a content ends where the whole content is known
abbrev pub Ends : SourceKind → ℕ → (ℕ → ℕ → Option ℕ) → Result Progress Misread → Type 0
Ends k n beats o = (q : Progress) × (o ≡ Ok q) × (q.kind ≡ k) × (q.sheet ≡ partly (content k n beats) 256)

pub read_through : (k : SourceKind) (n : ℕ) (beats : ℕ → ℕ → Option ℕ) → Sound (content k n beats) → (m p from i : ℕ) → p + m ≡ 256 → from ≤ p → ((q : ℕ) → from ≤ q → q < p → due k n q ≡ false)
    → Ends k n beats (scanned (after k (partly (content k n beats) p) from) (filter_map (row_at k n beats) (range_with_len p m)) i)
read_through k n beats sound zero p from i e l none =
    let is : p ≡ 256 = omega arith in
    let s = partly (content k n beats) p in (
      after k s from,
      cond-true (complete (awaited_from k s from)) (Ok (after k s from)) (Err (record { refusal = WordCountWrong; word = i })) (may_end k s from (omega arith) (λ q a b. none q a (omega arith))),
      refl,
      ap (partly (content k n beats)) is,
    )
read_through k n beats sound (suc m) p from i e l none =
    go (row_at k n beats p) refl (λ from'. read_through k n beats sound m (p + 1) from')
  where
    one_more : due k n p ≡ false → (q : ℕ) → from ≤ q → q < p + 1 → due k n q ≡ false
    one_more h q a b = elim (cases_eq q p) [ inl is ↦ ap (due k n) is ∙ h | inr ne ↦ none q a (omega arith) ]

    go : (o : Option Word) → row_at k n beats p ≡ o
        → ((from' i : ℕ) → p + 1 + m ≡ 256 → from' ≤ p + 1 → ((q : ℕ) → from' ≤ q → q < p + 1 → due k n q ≡ false)
        → Ends k n beats (scanned (after k (partly (content k n beats) (p + 1)) from') (filter_map (row_at k n beats) (range_with_len (p + 1) m)) i))
        → Ends k n beats (scanned (after k (partly (content k n beats) p) from) (cons_option (row_at k n beats p) (filter_map (row_at k n beats) (range_with_len (p + 1) m))) i)
    go None h ih =
        let t = passed_over k n beats sound p h in
        let rest = ih from i (omega arith) (omega arith) (one_more t.1) in
        let P : Option Word → Type 0 = λ o. Ends k n beats (scanned (after k (partly (content k n beats) p) from) (cons_option o (filter_map (row_at k n beats) (range_with_len (p + 1) m))) i) in
        let Q : Sheet → Type 0 = λ s. Ends k n beats (scanned (after k s from) (filter_map (row_at k n beats) (range_with_len (p + 1) m)) i) in
        subst P (sym h) (subst Q (sym t.0) rest)
    go (Some word) h ih =
        let t = taken_in k n beats sound from p word l (omega arith) none h in
        let rest = ih (p / 16 * 16 + p % 16 + 1) (i + 1) (omega arith) (omega arith) (λ q a b. absurd (omega arith)) in
        let P : Option Word → Type 0 = λ o. Ends k n beats (scanned (after k (partly (content k n beats) p) from) (cons_option o (filter_map (row_at k n beats) (range_with_len (p + 1) m))) i) in
        let Q : Sheet → Type 0 = λ s. Ends k n beats (scanned (after k s (p / 16 * 16 + p % 16 + 1)) (filter_map (row_at k n beats) (range_with_len (p + 1) m)) (i + 1)) in
        let R : Result Said Refusal → Type 0 = λ j. Ends k n beats (elim (advanced_by (after k (partly (content k n beats) p) from) j) as (λ _. Result Progress Misread) [ Ok q ↦ scanned q (filter_map (row_at k n beats) (range_with_len (p + 1) m)) (i + 1) | Err e ↦ Err (record { refusal = e; word = i }) ]) in
        subst P (sym h) (subst R (sym t.says) (subst Q (sym t.puts) rest))
