-- Words that a reader accepts are the words of a sound content. Assumes nothing.
use Rattle.std.proofs.Common.{◌≡◌, ℕ, ◌+◌, ◌-◌, ◌*◌, ◌/◌, ◌%◌, ◌<◌, ◌≤◌, Bool, true, false, cond, ◌&&◌, eqb, ltb, List, [], ◌∷◌, Some, None, Ok, Err, Option, Result, sym, refl, ap, ◌∙◌, subst, arith}
use Rattle.std.specs.List.{range_with_len, filter_map}
use Rattle.std.proofs.lemmas.Bool.{and_parts, and_from, and_left, or_parts, ltb-true, eqb-true, eq-eqb, ne_eqb, both_ways, cond-true, cond-false}
use Rattle.facts.specs.declared.refusals.Refusal.{Refusal}
use Rattle.facts.specs.declared.refusals.Refusal.TheVariants.{WordCountWrong}
use Rattle.facts.specs.Facts.{free, over_top}
use Rattle.facts.specs.Fields.{legal, opponents}
use Rattle.facts.specs.Sheets.{Sheet, amended}
use Rattle.sources.specs.declared.kind.SourceKind.{SourceKind}
use Rattle.sources.specs.declared.kind.SourceKind.TheVariants.{Matrix, Order, Bribes}
use Rattle.sources.specs.Holding.{legal_small, met, met_back}
use Rattle.sources.specs.Lawfulness.{certain_back, ranked_back, or_back}
use Rattle.sheets.specs.declared.misread.Misread.{Misread}
use Rattle.sheets.specs.declared.words.Word.{Word}
use Rattle.sheets.specs.declared.rows.Awaited.TheVariants.{Head as a_head}
use Rattle.sheets.specs.declared.rows.Said.{Said}
use Rattle.sheets.specs.declared.rows.Said.TheVariants.{Head as field, Row as row}
use Rattle.sheets.specs.Places.{has_row, next_row}
use Rattle.sheets.specs.Contents.{carries_of, row_for, row_at}
use Rattle.sheets.specs.Judging.{judged}
use Rattle.sheets.specs.Scanning.{Progress, outcome_at, price_at, awaited_from, after, advanced_by, complete, scanned}
use Rattle.sheets.proofs.Stepping.{none_found, gathered_none, gathered_at}
use Rattle.sheets.proofs.Taking.{due, Left-alone, Taken, taken, place_parts, head_legal}

-- the beats of a sheet at a place
abbrev pub at : Sheet → ℕ → Option ℕ
at s p = s.beats (p / 16) (p % 16)

pub carries_back : (k : SourceKind) (a b : ℕ) (f g : Option ℕ) → carries_of k a b f g ≡ carries_of k b a g f
carries_back Matrix a b f g = certain_back f g
carries_back Order a b f g = ranked_back a b f g
carries_back Bribes a b f g = or_back (free f) (free g)

-- a sheet that a content of the kind may have
pub record Good (k : SourceKind) (s : Sheet) : Type 0 where
  pub size_legal : legal s.size ≡ true
  pub outside : (a b : ℕ) → opponents s.size a b ≡ false → s.beats a b ≡ None
  pub capped : (a b : ℕ) → over_top (s.beats a b) ≡ false
  pub carried : (a b : ℕ) → opponents s.size a b ≡ true → carries_of k a b (s.beats a b) (s.beats b a) ≡ true
  pub carries : (a b : ℕ) (f g : Option ℕ) → s.carries a b f g ≡ carries_of k a b f g

-- where no row need stand, none is told yet from this place on
abbrev pub Blank : SourceKind → Sheet → ℕ → Type 0
Blank k s from = (p : ℕ) → from ≤ p → due k s.size p ≡ false → has_row k s.size p ≡ true → free (at s p) ≡ false

-- the rows before this place are told alike
abbrev pub Alike-before : SourceKind → ℕ → Sheet → Sheet → Type 0
Alike-before k from s t = (p : ℕ) → p < from → has_row k s.size p ≡ true → at t p ≡ at s p

-- no row is told at a place where none need stand
pub untold : (k : SourceKind) (n p : ℕ) (fact : Option ℕ) → due k n p ≡ false → (has_row k n p ≡ true → free fact ≡ false) → cond (has_row k n p) (row_for k (p / 16) (p % 16) fact) None ≡ None
untold Matrix n p fact h k = cond-false (has_row Matrix n p) _ None h
untold Bribes n p fact h k = cond-false (has_row Bribes n p) _ None h
untold Order n p fact h k = go (has_row Order n p) refl
  where
    go : (b : Bool) → has_row Order n p ≡ b → cond b (row_for Order (p / 16) (p % 16) fact) None ≡ None
    go true e = cond-false (free fact) _ None (k e)
    go false e = refl

module _ (k : SourceKind) (s : Sheet) (from : ℕ) (word : Word) (a b : ℕ) (facts : Option ℕ × Option ℕ) (good : Good k s) (t : Taken k s from word a b facts) where
  low : (a < 16) × (b < 16)
  low = let m = met s.size a b t.meet in let small = legal_small s.size good.size_legal in (omega (arith, m.0), omega (arith, m.1))

  pub row_below : a * 16 + b < 256
  row_below = let l = low in omega (arith, l.0, l.1)

  -- the row's own place
  pub told_here : at (amended s a b facts) (a * 16 + b) ≡ facts.0
  told_here =
      let p = place_parts a b low.1 in
      ap (λ i. (amended s a b facts).beats i ((a * 16 + b) % 16)) p.0 ∙ ap (λ i. (amended s a b facts).beats a i) p.1
      ∙ cond-true (eqb a a && eqb b b) _ _ (and_from (eqb a a) (eqb b b) (eq-eqb a a refl) (eq-eqb b b refl))

  -- every other place where a row can stand
  pub told_elsewhere : (p : ℕ) → (p ≡ a * 16 + b → ⊥) → has_row k s.size p ≡ true → at (amended s a b facts) p ≡ at s p
  told_elsewhere p ne stands = go (eqb (p / 16) a && eqb (p % 16) b) (eqb (p / 16) b && eqb (p % 16) a) refl refl
    where
      back : (j : SourceKind) → j ≡ k → p / 16 ≡ b → p % 16 ≡ a → has_row j s.size p ≡ true → has_row j s.size (a * 16 + b) ≡ true → Left-alone j s a b facts.1 → facts.1 ≡ at s p
      back Matrix is x y up down other =
          let u = ltb-true (p / 16) (p % 16) (and_parts (opponents s.size (p / 16) (p % 16)) (ltb (p / 16) (p % 16)) up).1 in
          let v = ltb-true ((a * 16 + b) / 16) ((a * 16 + b) % 16) (and_parts (opponents s.size ((a * 16 + b) / 16) ((a * 16 + b) % 16)) (ltb ((a * 16 + b) / 16) ((a * 16 + b) % 16)) down).1 in
          let q = place_parts a b low.1 in
          absurd (omega (arith, q.0, q.1))
      back Order is x y up down other =
          let u = ltb-true (p % 16) (p / 16) (and_parts (opponents s.size (p / 16) (p % 16)) (ltb (p % 16) (p / 16)) up).1 in
          let v = ltb-true ((a * 16 + b) % 16) ((a * 16 + b) / 16) (and_parts (opponents s.size ((a * 16 + b) / 16) ((a * 16 + b) % 16)) (ltb ((a * 16 + b) % 16) ((a * 16 + b) / 16)) down).1 in
          let q = place_parts a b low.1 in
          absurd (omega (arith, q.0, q.1))
      back Bribes is x y up down other = other ∙ ap (λ i. s.beats i a) (sym x) ∙ ap (λ i. s.beats (p / 16) i) (sym y)

      go : (u v : Bool) → (eqb (p / 16) a && eqb (p % 16) b) ≡ u → (eqb (p / 16) b && eqb (p % 16) a) ≡ v → cond u facts.0 (cond v facts.1 (at s p)) ≡ at s p
      go true v e f =
          let q = and_parts (eqb (p / 16) a) (eqb (p % 16) b) e in
          let x = eqb-true (p / 16) a q.0 in let y = eqb-true (p % 16) b q.1 in
          absurd (ne (omega arith))
      go false true e f =
          let q = and_parts (eqb (p / 16) b) (eqb (p % 16) a) f in
          back k refl (eqb-true (p / 16) b q.0) (eqb-true (p % 16) a q.1) stands t.stands t.other
      go false false e f = refl

  -- an accepted row keeps a sheet good
  pub good_after : Good k (amended s a b facts)
  good_after =
      record {
        size_legal = good.size_legal;
        outside = λ i j h. out i j (eqb i a && eqb j b) (eqb i b && eqb j a) refl refl h;
        capped = λ i j. cap_of (eqb i a && eqb j b) (eqb i b && eqb j a) (s.beats i j) (good.capped i j);
        carried = λ i j h. carry i j (eqb i a && eqb j b) (eqb i b && eqb j a) refl refl h;
        carries = good.carries;
      }
    where
      and_swap : (x y : Bool) → (x && y) ≡ (y && x)
      and_swap true true = refl
      and_swap true false = refl
      and_swap false true = refl
      and_swap false false = refl

      back : opponents s.size b a ≡ true
      back = sym (met_back s.size a b) ∙ t.meet

      out : (i j : ℕ) (u v : Bool) → (eqb i a && eqb j b) ≡ u → (eqb i b && eqb j a) ≡ v → opponents s.size i j ≡ false → cond u facts.0 (cond v facts.1 (s.beats i j)) ≡ None
      out i j true v e f h =
          let q = and_parts (eqb i a) (eqb j b) e in
          absurd (both_ways (opponents s.size i j) h (ap (λ x. opponents s.size x j) (eqb-true i a q.0) ∙ ap (λ x. opponents s.size a x) (eqb-true j b q.1) ∙ t.meet))
      out i j false true e f h =
          let q = and_parts (eqb i b) (eqb j a) f in
          absurd (both_ways (opponents s.size i j) h (ap (λ x. opponents s.size x j) (eqb-true i b q.0) ∙ ap (λ x. opponents s.size b x) (eqb-true j a q.1) ∙ back))
      out i j false false e f h = good.outside i j h

      cap_of : (u v : Bool) (o : Option ℕ) → over_top o ≡ false → over_top (cond u facts.0 (cond v facts.1 o)) ≡ false
      cap_of true v o h = (or_parts (over_top facts.0) (over_top facts.1) t.capped).0
      cap_of false true o h = (or_parts (over_top facts.0) (over_top facts.1) t.capped).1
      cap_of false false o h = h

      forth_is : (amended s a b facts).beats a b ≡ facts.0
      forth_is = cond-true (eqb a a && eqb b b) _ _ (and_from (eqb a a) (eqb b b) (eq-eqb a a refl) (eq-eqb b b refl))

      back_is : (amended s a b facts).beats b a ≡ facts.1
      back_is =
          let m = met s.size a b t.meet in
          cond-false (eqb b a && eqb a b) _ _ (and_left (eqb b a) (eqb a b) (ne_eqb b a (λ e. m.2 (sym e)))) ∙ cond-true (eqb b b && eqb a a) _ _ (and_from (eqb b b) (eqb a a) (eq-eqb b b refl) (eq-eqb a a refl))

      both_ways_carried : carries_of k a b ((amended s a b facts).beats a b) ((amended s a b facts).beats b a) ≡ true
      both_ways_carried = ap (λ x. carries_of k a b x ((amended s a b facts).beats b a)) forth_is ∙ ap (carries_of k a b facts.0) back_is ∙ t.carried

      carry : (i j : ℕ) (u v : Bool) → (eqb i a && eqb j b) ≡ u → (eqb i b && eqb j a) ≡ v → opponents s.size i j ≡ true
          → carries_of k i j ((amended s a b facts).beats i j) ((amended s a b facts).beats j i) ≡ true
      carry i j true v e f o =
          let q = and_parts (eqb i a) (eqb j b) e in
          ap (λ x. carries_of k x j ((amended s a b facts).beats x j) ((amended s a b facts).beats j x)) (eqb-true i a q.0)
          ∙ ap (λ x. carries_of k a x ((amended s a b facts).beats a x) ((amended s a b facts).beats x a)) (eqb-true j b q.1) ∙ both_ways_carried
      carry i j false true e f o =
          let q = and_parts (eqb i b) (eqb j a) f in
          ap (λ x. carries_of k x j ((amended s a b facts).beats x j) ((amended s a b facts).beats j x)) (eqb-true i b q.0)
          ∙ ap (λ x. carries_of k b x ((amended s a b facts).beats b x) ((amended s a b facts).beats x b)) (eqb-true j a q.1)
          ∙ carries_back k b a ((amended s a b facts).beats b a) ((amended s a b facts).beats a b) ∙ both_ways_carried
      carry i j false false e f o =
          let x : (amended s a b facts).beats i j ≡ s.beats i j = cond-false (eqb i a && eqb j b) _ _ e ∙ cond-false (eqb i b && eqb j a) _ _ f in
          let y : (amended s a b facts).beats j i ≡ s.beats j i = cond-false (eqb j a && eqb i b) _ _ (and_swap (eqb j a) (eqb i b) ∙ f) ∙ cond-false (eqb j b && eqb i a) _ _ (and_swap (eqb j b) (eqb i a) ∙ e) in
          ap (λ z. carries_of k i j z ((amended s a b facts).beats j i)) x ∙ ap (carries_of k i j (s.beats i j)) y ∙ good.carried i j o

-- a head is awaited only at the beginning
pub no_head_later : (k : SourceKind) (s : Sheet) (from : ℕ) → awaited_from k s from ≡ a_head → ⊥
no_head_later Matrix s from h = go (next_row Matrix s.size from) h
  where
    go : (o : Option ℕ) → outcome_at o ≡ a_head → ⊥
    go None e = cc
    go (Some p) e = cc
no_head_later Order s from h = cc
no_head_later Bribes s from h = go (next_row Bribes s.size from) h
  where
    go : (o : Option ℕ) → price_at s o ≡ a_head → ⊥
    go None e = cc
    go (Some p) e = cc

-- where the words may end, no row is due any more
none_due : (k : SourceKind) (s : Sheet) (from : ℕ) → complete (awaited_from k s from) ≡ true → (p : ℕ) → from ≤ p → p < 256 → due k s.size p ≡ false
none_due Order s from h p l r = refl
none_due Matrix s from h p l r = go (next_row Matrix s.size from) refl h
  where
    go : (o : Option ℕ) → next_row Matrix s.size from ≡ o → complete (outcome_at o) ≡ true → has_row Matrix s.size p ≡ false
    go None e h = none_found (has_row Matrix s.size) from (256 - from) e p l (omega arith)
    go (Some q) e h = absurd (cc)
none_due Bribes s from h p l r = go (next_row Bribes s.size from) refl h
  where
    go : (o : Option ℕ) → next_row Bribes s.size from ≡ o → complete (price_at s o) ≡ true → has_row Bribes s.size p ≡ false
    go None e h = none_found (has_row Bribes s.size) from (256 - from) e p l (omega arith)
    go (Some q) e h = absurd (cc)

-- what is known of the end of a scan that passed
pub record Read-off (k : SourceKind) (s : Sheet) (from : ℕ) (ws : List Word) (p : Progress) : Type 0 where
  pub kind : p.kind ≡ k
  pub size : p.sheet.size ≡ s.size
  pub good : Good k p.sheet
  pub before : Alike-before k from s p.sheet
  pub words : ws ≡ filter_map (row_at k s.size p.sheet.beats) (range_with_len from (256 - from))

pub read_off : (ws : List Word) (k : SourceKind) (s : Sheet) (from i : ℕ) (p : Progress) → from ≤ 256 → Good k s → Blank k s from → scanned (after k s from) ws i ≡ Ok p → Read-off k s from ws p
read_off [] k s from i p inside good blank h = go (complete (awaited_from k s from)) refl h
  where
    ending : complete (awaited_from k s from) ≡ true → Read-off k s from [] (after k s from)
    ending e =
        record {
          kind = refl;
          size = refl;
          good = good;
          before = λ q l r. refl;
          words = sym (gathered_none (row_at k s.size s.beats) from (256 - from)
              (λ q l r. untold k s.size q (at s q) (none_due k s from e q l (omega arith)) (blank q l (none_due k s from e q l (omega arith)))));
        }

    go : (b : Bool) → complete (awaited_from k s from) ≡ b → ◌≡◌ {A = Result Progress Misread} (cond b (Ok (after k s from)) (Err (record { refusal = WordCountWrong; word = i }))) (Ok p) → Read-off k s from [] p
    go true e q = let is : after k s from ≡ p = cc in subst (λ (x : Progress). Read-off k s from [] x) is (ending e)
    go false e q = absurd (cc)
read_off (w ∷ ws) k s from i p inside good blank h = go (judged s.size (awaited_from k s from) w) refl (λ s' from'. read_off ws k s' from' (i + 1) p) h
  where
    go : (j : Result Said Refusal) → judged s.size (awaited_from k s from) w ≡ j
        → ((s' : Sheet) (from' : ℕ) → from' ≤ 256 → Good k s' → Blank k s' from' → scanned (after k s' from') ws (i + 1) ≡ Ok p → Read-off k s' from' ws p)
        → (elim (advanced_by (after k s from) j) as (λ _. Result Progress Misread) [ Ok q ↦ scanned q ws (i + 1) | Err e ↦ Err (record { refusal = e; word = i }) ]) ≡ Ok p → Read-off k s from (w ∷ ws) p
    go (Err e) is ih q = absurd (cc)
    go (Ok (field n j)) is ih q = absurd (no_head_later k s from (head_legal s.size n j (awaited_from k s from) w is).0)
    go (Ok (row a b facts)) is ih q =
        let t = taken k s from w a b facts good.size_legal good.capped is in
        joined_up t (ih (amended s a b facts) (a * 16 + b + 1) (let l = row_below k s from w a b facts good t in omega (arith, l)) (good_after k s from w a b facts good t) (blank_after t) q)
      where
        blank_after : Taken k s from w a b facts → Blank k (amended s a b facts) (a * 16 + b + 1)
        blank_after t x l d r = ap free (told_elsewhere k s from w a b facts good t x (λ e. omega arith) r) ∙ blank x (let u = t.behind in omega arith) d r

        joined_up : Taken k s from w a b facts → Read-off k (amended s a b facts) (a * 16 + b + 1) ws p → Read-off k s from (w ∷ ws) p
        joined_up t rest =
            record {
              kind = rest.kind;
              size = rest.size;
              good = rest.good;
              before = λ x l r. rest.before x (omega (arith, t.behind)) r ∙ told_elsewhere k s from w a b facts good t x (λ e. omega (arith, t.behind)) r;
              words = ap (λ xs. w ∷ xs) rest.words ∙ sym (gathered_at (row_at k s.size p.sheet.beats) (a * 16 + b - from) from (a * 16 + b) w (omega (arith, t.behind)) (row_below k s from w a b facts good t) none here);
            }
          where
            later : (x : ℕ) → x < a * 16 + b → has_row k s.size x ≡ true → at p.sheet x ≡ at s x
            later x l r = rest.before x (omega arith) r ∙ told_elsewhere k s from w a b facts good t x (λ e. omega arith) r

            none : (x : ℕ) → from ≤ x → x < a * 16 + b → row_at k s.size p.sheet.beats x ≡ None
            none x l r = untold k s.size x (at p.sheet x) (t.skipped x l r) (λ stands. ap free (later x r stands) ∙ blank x l (t.skipped x l r) stands)

            here : row_at k s.size p.sheet.beats (a * 16 + b) ≡ Some w
            here =
                let q = place_parts a b (low k s from w a b facts good t).1 in
                cond-true (has_row k s.size (a * 16 + b)) _ None t.stands
                ∙ ap (row_for k ((a * 16 + b) / 16) ((a * 16 + b) % 16)) (rest.before (a * 16 + b) (omega arith) t.stands ∙ told_here k s from w a b facts good t)
                ∙ ap (λ x. row_for k x ((a * 16 + b) % 16) facts.0) q.0 ∙ ap (λ x. row_for k a x facts.0) q.1 ∙ t.says
