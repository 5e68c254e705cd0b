-- What an accepted row tells. Assumes nothing.
use Rattle.std.proofs.Common.{◌≡◌, ℕ, ◌+◌, ◌-◌, ◌*◌, ◌/◌, ◌%◌, ◌<◌, ◌≤◌, Bool, true, false, cond, not, ◌&&◌, ◌||◌, eqb, ltb, ◌⊎◌, Some, None, Ok, Err, Option, Result, sym, refl, ap, ◌∙◌, subst, inl, inr, arith}
use Rattle.std.proofs.lemmas.Bool.{and_parts, and_from, or_parts, or_from, not_from_false, ltb-false, lt-ltb, eqb-true, ne_eqb, or_left, or_right}
use Rattle.facts.specs.declared.refusals.Refusal.{Refusal}
use Rattle.facts.specs.declared.refusals.Refusal.TheVariants.{SizeNotAllowed, EntrantsImpossible, EntrantsNotAwaited, PriceNotAllowed, SecondPriceNotFree, EntrantUnknown, EntrantsEqual, PriceAboveTop, NeitherSideFree, PairingNotCarried}
use Rattle.facts.specs.Facts.{free, over_top, one_free}
use Rattle.facts.specs.Fields.{legal, opponents}
use Rattle.facts.specs.Sheets.{Sheet}
use Rattle.facts.specs.Amendments.{refusal_of}
use Rattle.sources.specs.Kinds.{kind_of}
use Rattle.sources.specs.Orders.{plain}
use Rattle.sources.specs.Held.{turned}
use Rattle.sources.specs.declared.kind.SourceKind.{SourceKind}
use Rattle.sources.specs.declared.kind.SourceKind.TheVariants.{Matrix, Order, Bribes}
use Rattle.sources.specs.Holding.{legal_small, met}
use Rattle.sheets.specs.declared.words.Word.{Word}
use Rattle.sheets.specs.declared.words.Word.TheVariants.{Head, Price, Upset, Outcome, Stray}
use Rattle.sheets.specs.declared.rows.Awaited.{Awaited}
use Rattle.sheets.specs.declared.rows.Awaited.TheVariants.{Head as a_head, Outcome as an_outcome, Upset as an_upset, Price as a_price, Nothing as nothing}
use Rattle.sheets.specs.declared.rows.Said.{Said}
use Rattle.sheets.specs.declared.rows.Said.TheVariants.{Head as field, Row as row}
use Rattle.sheets.specs.Places.{has_row, next_row}
use Rattle.sheets.specs.Contents.{carries_of, row_for}
use Rattle.sheets.specs.Judging.{sourced, judged_head, judged_upset, priced, judged}
use Rattle.sheets.specs.Scanning.{outcome_at, price_at, awaited_from}
use Rattle.sheets.proofs.Stepping.{First, first_found}

-- a sheet of this kind must have a row at the place
abbrev pub due : SourceKind → ℕ → ℕ → Bool
due Matrix n p = has_row Matrix n p
due Order n p = false
due Bribes n p = has_row Bribes n p

-- what a row leaves as it was: the price the other way round; an upset leaves the stronger's win free
abbrev pub Left-alone : SourceKind → Sheet → ℕ → ℕ → Option ℕ → Type 0
Left-alone Matrix s a b g = Unit {0}
Left-alone Order s a b g = g ≡ Some 0
Left-alone Bribes s a b g = g ≡ s.beats b a

pub record Taken (k : SourceKind) (s : Sheet) (from : ℕ) (word : Word) (a b : ℕ) (facts : Option ℕ × Option ℕ) : Type 0 where
  pub meet : opponents s.size a b ≡ true
  pub behind : from ≤ a * 16 + b
  pub stands : has_row k s.size (a * 16 + b) ≡ true
  pub skipped : (p : ℕ) → from ≤ p → p < a * 16 + b → due k s.size p ≡ false
  pub says : row_for k a b facts.0 ≡ Some word
  pub carried : carries_of k a b facts.0 facts.1 ≡ true
  pub capped : (over_top facts.0 || over_top facts.1) ≡ false
  pub other : Left-alone k s a b facts.1

-- the place of a winner and a loser, and back
pub place_parts : (a b : ℕ) → b < 16 → ((a * 16 + b) / 16 ≡ a) × ((a * 16 + b) % 16 ≡ b)
place_parts a b h = (omega arith, omega arith)

outcome_taken : (x y z : Bool) (lower higher a b : ℕ) (facts : Option ℕ × Option ℕ)
    → ◌≡◌ {A = Result Said Refusal} (cond (not x) (Err EntrantsImpossible) (cond y (Ok (row lower higher (Some 0, None))) (cond z (Ok (row lower higher (None, Some 0))) (Err EntrantsNotAwaited)))) (Ok (row a b facts))
    → (x ≡ true) × (lower ≡ a) × (higher ≡ b) × (((y ≡ true) × ((Some 0, None) ≡ facts)) ⊎ ((z ≡ true) × ((None, Some 0) ≡ facts)))
outcome_taken true true z lower higher a b facts e = (refl, cc, cc, inl (refl, cc))
outcome_taken true false true lower higher a b facts e = (refl, cc, cc, inr (refl, cc))
outcome_taken true false false lower higher a b facts e = absurd (cc)
outcome_taken false y z lower higher a b facts e = absurd (cc)

upset_taken : (x y : Bool) (w l a b : ℕ) (facts : Option ℕ × Option ℕ)
    → ◌≡◌ {A = Result Said Refusal} (cond (not x) (Err EntrantsImpossible) (cond y (Err EntrantsNotAwaited) (Ok (row w l (Some 0, Some 0))))) (Ok (row a b facts))
    → (x ≡ true) × (y ≡ false) × (w ≡ a) × (l ≡ b) × ((Some 0, Some 0) ≡ facts)
upset_taken true false w l a b facts e = (refl, refl, cc, cc, cc)
upset_taken true true w l a b facts e = absurd (cc)
upset_taken false y w l a b facts e = absurd (cc)

priced_taken : (x y : Bool) (w l a b : ℕ) (fact : Option (Option ℕ)) (other : Option ℕ) (facts : Option ℕ × Option ℕ)
    → ◌≡◌ {A = Result Said Refusal} (cond (not x) (Err EntrantsImpossible) (cond (not y) (Err EntrantsNotAwaited) (priced w l fact other))) (Ok (row a b facts))
    → (x ≡ true) × (y ≡ true) × (f : Option ℕ) × (fact ≡ Some f) × (over_top f ≡ false) × ((free f || free other) ≡ true) × (w ≡ a) × (l ≡ b) × ((f, other) ≡ facts)
priced_taken true true w l a b (Some f) other facts e = go (over_top f) (free f || free other) refl refl e
  where
    go : (z u : Bool) → over_top f ≡ z → (free f || free other) ≡ u → ◌≡◌ {A = Result Said Refusal} (cond z (Err PriceNotAllowed) (cond (not u) (Err SecondPriceNotFree) (Ok (row w l (f, other))))) (Ok (row a b facts))
        → (true ≡ true) × (true ≡ true) × (g : Option ℕ) × (Some f ≡ Some g) × (over_top g ≡ false) × ((free g || free other) ≡ true) × (w ≡ a) × (l ≡ b) × ((g, other) ≡ facts)
    go false true p q h = (refl, refl, f, refl, p, q, cc, cc, cc)
    go false false p q h = absurd (cc)
    go true u p q h = absurd (cc)
priced_taken true true w l a b None other facts e = absurd (cc)
priced_taken true false w l a b fact other facts e = absurd (cc)
priced_taken false y w l a b fact other facts e = absurd (cc)

moved : (k : SourceKind) (s : Sheet) (from : ℕ) (word : Word) (a b a' b' : ℕ) (f f' : Option ℕ × Option ℕ) → a ≡ a' → b ≡ b' → f ≡ f' → Taken k s from word a b f → Taken k s from word a' b' f'
moved k s from word a b a' b' f f' p q r t =
    let P : ℕ → Type 0 = λ x. Taken k s from word x b f in
    let Q : ℕ → Type 0 = λ x. Taken k s from word a' x f in
    let R : Option ℕ × Option ℕ → Type 0 = λ x. Taken k s from word a' b' x in
    subst R r (subst Q q (subst P p t))

module _ (s : Sheet) (from : ℕ) (leg : legal s.size ≡ true) where
  matrix_taken : (word : Word) (a b : ℕ) (facts : Option ℕ × Option ℕ) (o : Option ℕ) → next_row Matrix s.size from ≡ o
      → judged s.size (outcome_at o) word ≡ Ok (row a b facts) → Taken Matrix s from word a b facts
  matrix_taken word a b facts None e h = absurd (cc)
  matrix_taken (Head size source) a b facts (Some p) e h = absurd (cc)
  matrix_taken (Price w l fact) a b facts (Some p) e h = absurd (cc)
  matrix_taken (Upset w l) a b facts (Some p) e h = absurd (cc)
  matrix_taken Stray a b facts (Some p) e h = absurd (cc)
  matrix_taken (Outcome w l) a b facts (Some p) e h =
      let t = outcome_taken (opponents s.size w l) (eqb w (p / 16) && eqb l (p % 16)) (eqb w (p % 16) && eqb l (p / 16)) (p / 16) (p % 16) a b facts h in
      moved Matrix s from (Outcome w l) (p / 16) (p % 16) a b facts facts t.1 t.2 refl (go t)
    where
      is : p / 16 * 16 + p % 16 ≡ p
      is = omega arith

      found : First (has_row Matrix s.size) from p (from + (256 - from))
      found = first_found (has_row Matrix s.size) from (256 - from) p e

      facing : opponents s.size (p / 16) (p % 16) ≡ true
      facing = (and_parts (opponents s.size (p / 16) (p % 16)) (ltb (p / 16) (p % 16)) found.passes).0

      with_facts : (f : Option ℕ × Option ℕ) → f ≡ facts → row_for Matrix (p / 16) (p % 16) f.0 ≡ Some (Outcome w l) → carries_of Matrix 0 0 f.0 f.1 ≡ true → (over_top f.0 || over_top f.1) ≡ false → Taken Matrix s from (Outcome w l) (p / 16) (p % 16) facts
      with_facts f q says carried capped =
          moved Matrix s from (Outcome w l) (p / 16) (p % 16) (p / 16) (p % 16) f facts refl refl q
          (record {
            meet = facing;
            behind = omega (arith, found.behind);
            stands = ap (has_row Matrix s.size) is ∙ found.passes;
            skipped = λ x l r. found.none x l (omega arith);
            says = says;
            carried = carried;
            capped = capped;
            other = tt;
          })

      go : (opponents s.size w l ≡ true) × (p / 16 ≡ a) × (p % 16 ≡ b) × ((((eqb w (p / 16) && eqb l (p % 16)) ≡ true) × ((Some 0, None) ≡ facts)) ⊎ (((eqb w (p % 16) && eqb l (p / 16)) ≡ true) × ((None, Some 0) ≡ facts)))
          → Taken Matrix s from (Outcome w l) (p / 16) (p % 16) facts
      go (x, y, z, inl (u, v)) =
          let q = and_parts (eqb w (p / 16)) (eqb l (p % 16)) u in
          let is-w = eqb-true w (p / 16) q.0 in
          let is-l = eqb-true l (p % 16) q.1 in
          with_facts (Some 0, None) v (ap (λ i. Some (Outcome i (p % 16))) (sym is-w) ∙ ap (λ i. Some (Outcome w i)) (sym is-l)) refl refl
      go (x, y, z, inr (u, v)) =
          let q = and_parts (eqb w (p % 16)) (eqb l (p / 16)) u in
          let is-w = eqb-true w (p % 16) q.0 in
          let is-l = eqb-true l (p / 16) q.1 in
          with_facts (None, Some 0) v (ap (λ i. Some (Outcome i (p / 16))) (sym is-w) ∙ ap (λ i. Some (Outcome w i)) (sym is-l)) refl refl

  order_taken : (word : Word) (a b : ℕ) (facts : Option ℕ × Option ℕ) → judged_upset s.size from word ≡ Ok (row a b facts) → Taken Order s from word a b facts
  order_taken (Head size source) a b facts h = absurd (cc)
  order_taken (Price w l fact) a b facts h = absurd (cc)
  order_taken (Outcome w l) a b facts h = absurd (cc)
  order_taken Stray a b facts h = absurd (cc)
  order_taken (Upset w l) a b facts h =
      let t = upset_taken (opponents s.size w l) (ltb w l || ltb (w * 16 + l) from) w l a b facts h in
      moved Order s from (Upset w l) w l a b (Some 0, Some 0) facts t.2 t.3 t.4 (go t.0 (or_parts (ltb w l) (ltb (w * 16 + l) from) t.1).0 (or_parts (ltb w l) (ltb (w * 16 + l) from) t.1).1)
    where
      go : opponents s.size w l ≡ true → ltb w l ≡ false → ltb (w * 16 + l) from ≡ false → Taken Order s from (Upset w l) w l (Some 0, Some 0)
      go x y z =
          let m = met s.size w l x in
          let small = legal_small s.size leg in
          let low : l < 16 = omega (arith, m.1) in
          let at = place_parts w l low in
          let weaker : l < w = omega (arith, ltb-false w l y, m.2) in
          record {
            meet = x;
            behind = ltb-false (w * 16 + l) from z;
            stands = ap (λ i. opponents s.size i ((w * 16 + l) % 16) && ltb ((w * 16 + l) % 16) i) at.0 ∙ ap (λ i. opponents s.size w i && ltb i w) at.1 ∙ and_from (opponents s.size w l) (ltb l w) x (lt-ltb l w weaker);
            skipped = λ p a b. refl;
            says = refl;
            carried = ap (λ t. not (eqb w l) && (free (cond {A = Option ℕ × Option ℕ} t (Some 0, Some 0) (Some 0, Some 0)).0 && plain (cond {A = Option ℕ × Option ℕ} t (Some 0, Some 0) (Some 0, Some 0)).1)) y ∙ and_from (not (eqb w l)) true (not_from_false (eqb w l) (ne_eqb w l m.2)) refl;
            capped = refl;
            other = refl;
          }

  bribe_taken : ((x y : ℕ) → over_top (s.beats x y) ≡ false) → (word : Word) (a b : ℕ) (facts : Option ℕ × Option ℕ) (o : Option ℕ) → next_row Bribes s.size from ≡ o
      → judged s.size (price_at s o) word ≡ Ok (row a b facts) → Taken Bribes s from word a b facts
  bribe_taken under_top word a b facts None e h = absurd (cc)
  bribe_taken under_top (Head size source) a b facts (Some p) e h = absurd (cc)
  bribe_taken under_top (Outcome w l) a b facts (Some p) e h = absurd (cc)
  bribe_taken under_top (Upset w l) a b facts (Some p) e h = absurd (cc)
  bribe_taken under_top Stray a b facts (Some p) e h = absurd (cc)
  bribe_taken under_top (Price w l fact) a b facts (Some p) e h =
      let (x, y, f, is, capped, z, wa, lb, fs) = priced_taken (opponents s.size w l) (eqb w (p / 16) && eqb l (p % 16)) w l a b fact (s.beats (p % 16) (p / 16)) facts h in
      let q = and_parts (eqb w (p / 16)) (eqb l (p % 16)) y in
      moved Bribes s from (Price w l fact) w l a b (f, s.beats (p % 16) (p / 16)) facts wa lb fs
      (go f is x (eqb-true w (p / 16) q.0) (eqb-true l (p % 16) q.1) capped z)
    where
      found : First (has_row Bribes s.size) from p (from + (256 - from))
      found = first_found (has_row Bribes s.size) from (256 - from) p e

      go : (f : Option ℕ) → fact ≡ Some f → opponents s.size w l ≡ true → w ≡ p / 16 → l ≡ p % 16 → over_top f ≡ false → (free f || free (s.beats (p % 16) (p / 16))) ≡ true
          → Taken Bribes s from (Price w l fact) w l (f, s.beats (p % 16) (p / 16))
      go f is-fact x is-w is-l u z =
          let is : w * 16 + l ≡ p = omega arith in
          record {
            meet = x;
            behind = omega (arith, found.behind);
            stands = ap (has_row Bribes s.size) is ∙ found.passes;
            skipped = λ i l r. found.none i l (omega arith);
            says = ap (λ o. Some (Price w l o)) (sym is-fact);
            carried = z;
            capped = or_from (over_top f) (over_top (s.beats (p % 16) (p / 16))) u (under_top (p % 16) (p / 16));
            other = ap (λ i. s.beats i (p / 16)) (sym is-l) ∙ ap (λ i. s.beats l i) (sym is-w);
          }

-- what a row that passes tells
pub taken : (k : SourceKind) (s : Sheet) (from : ℕ) (word : Word) (a b : ℕ) (facts : Option ℕ × Option ℕ) → legal s.size ≡ true → ((x y : ℕ) → over_top (s.beats x y) ≡ false)
    → judged s.size (awaited_from k s from) word ≡ Ok (row a b facts) → Taken k s from word a b facts
taken Matrix s from word a b facts leg top h = matrix_taken s from leg word a b facts (next_row Matrix s.size from) refl h
taken Order s from word a b facts leg top h = order_taken s from leg word a b facts h
taken Bribes s from word a b facts leg top h = bribe_taken s from leg top word a b facts (next_row Bribes s.size from) refl h

pub carried_free : (k : SourceKind) (a b : ℕ) (f g : Option ℕ) → carries_of k a b f g ≡ true → one_free f g ≡ true
carried_free Matrix a b None None h = h
carried_free Matrix a b None (Some q) h = h
carried_free Matrix a b (Some p) None h = or_left (eqb p 0) false h
carried_free Matrix a b (Some p) (Some q) h = absurd (cc)
carried_free Order a b f g h =
    let t = and_parts (not (eqb a b)) (free (turned a b (f, g)).0 && plain (turned a b (f, g)).1) h in
    go (ltb a b) (and_parts (free (turned a b (f, g)).0) (plain (turned a b (f, g)).1) t.1).0
  where
    go : (t : Bool) → free (cond {A = Option ℕ × Option ℕ} t (f, g) (g, f)).0 ≡ true → one_free f g ≡ true
    go true u = or_left (free f) (free g) u
    go false u = or_right (free f) (free g) u
carried_free Bribes a b f g h = h

-- nothing refuses the amendment of an accepted row
pub unrefused : (k : SourceKind) (s : Sheet) (from : ℕ) (word : Word) (a b : ℕ) (facts : Option ℕ × Option ℕ)
    → s.carries a b facts.0 facts.1 ≡ carries_of k a b facts.0 facts.1 → Taken k s from word a b facts → refusal_of s a b facts ≡ None
unrefused k s from word a b facts same t =
    go (ltb a s.size) (ltb b s.size) (eqb a b) (over_top facts.0 || over_top facts.1) (one_free facts.0 facts.1) (s.carries a b facts.0 facts.1)
    t.meet t.capped (carried_free k a b facts.0 facts.1 t.carried) (same ∙ t.carried)
  where
    go : (p q e x y c : Bool) → (p && (q && not e)) ≡ true → x ≡ false → y ≡ true → c ≡ true
        → ◌≡◌ {A = Option Refusal} (cond (not (p && q)) (Some EntrantUnknown) (cond e (Some EntrantsEqual) (cond x (Some PriceAboveTop) (cond (not y) (Some NeitherSideFree) (cond (not c) (Some PairingNotCarried) None))))) None
    go p q e x y c g h i j = grind arith

-- what passes as a head was awaited as one, and names a legal size
module _ (n m : ℕ) (k : SourceKind) where
  sourced_legal : (size source : ℕ) (g : Bool) → legal size ≡ g → ◌≡◌ {A = Result Said Refusal} (cond (not g) (Err SizeNotAllowed) (sourced size (kind_of source))) (Ok (field m k)) → legal m ≡ true
  sourced_legal size source false e h = absurd (cc)
  sourced_legal size source true e h = go (kind_of source) h
    where
      go : (j : Result SourceKind Refusal) → sourced size j ≡ Ok (field m k) → legal m ≡ true
      go (Ok j) q = let is : size ≡ m = cc in ap legal (sym is) ∙ e
      go (Err e) q = absurd (cc)

  outcome_no_head : {P : Type 0} (x y z : Bool) (a b : ℕ) → ◌≡◌ {A = Result Said Refusal} (cond (not x) (Err EntrantsImpossible) (cond y (Ok (row a b (Some 0, None))) (cond z (Ok (row a b (None, Some 0))) (Err EntrantsNotAwaited)))) (Ok (field m k)) → P
  outcome_no_head false y z a b h = absurd (cc)
  outcome_no_head true true z a b h = absurd (cc)
  outcome_no_head true false true a b h = absurd (cc)
  outcome_no_head true false false a b h = absurd (cc)

  upset_no_head : {P : Type 0} (x y : Bool) (a b : ℕ) → ◌≡◌ {A = Result Said Refusal} (cond (not x) (Err EntrantsImpossible) (cond y (Err EntrantsNotAwaited) (Ok (row a b (Some 0, Some 0))))) (Ok (field m k)) → P
  upset_no_head false y a b h = absurd (cc)
  upset_no_head true true a b h = absurd (cc)
  upset_no_head true false a b h = absurd (cc)

  price_no_head : {P : Type 0} (x y : Bool) (w l : ℕ) (fact : Option (Option ℕ)) (other : Option ℕ)
      → ◌≡◌ {A = Result Said Refusal} (cond (not x) (Err EntrantsImpossible) (cond (not y) (Err EntrantsNotAwaited) (priced w l fact other))) (Ok (field m k)) → P
  price_no_head false y w l fact other h = absurd (cc)
  price_no_head true false w l fact other h = absurd (cc)
  price_no_head true true w l None other h = absurd (cc)
  price_no_head true true w l (Some f) other h = go (over_top f) (free f || free other) h
    where
      go : {Q : Type 0} (z u : Bool) → ◌≡◌ {A = Result Said Refusal} (cond z (Err PriceNotAllowed) (cond (not u) (Err SecondPriceNotFree) (Ok (row w l (f, other))))) (Ok (field m k)) → Q
      go true u q = absurd (cc)
      go false false q = absurd (cc)
      go false true q = absurd (cc)

  pub head_legal : (x : Awaited) (word : Word) → judged n x word ≡ Ok (field m k) → (x ≡ a_head) × (legal m ≡ true)
  head_legal a_head (Head size source) h = (refl, sourced_legal size source (legal size) refl h)
  head_legal a_head (Price w l fact) h = absurd (cc)
  head_legal a_head (Upset w l) h = absurd (cc)
  head_legal a_head (Outcome w l) h = absurd (cc)
  head_legal a_head Stray h = absurd (cc)
  head_legal (an_outcome a b) (Outcome w l) h = outcome_no_head (opponents n w l) (eqb w a && eqb l b) (eqb w b && eqb l a) a b h
  head_legal (an_outcome a b) (Head size source) h = absurd (cc)
  head_legal (an_outcome a b) (Price w l fact) h = absurd (cc)
  head_legal (an_outcome a b) (Upset w l) h = absurd (cc)
  head_legal (an_outcome a b) Stray h = absurd (cc)
  head_legal (an_upset from) (Upset w l) h = upset_no_head (opponents n w l) (ltb w l || ltb (w * 16 + l) from) w l h
  head_legal (an_upset from) (Head size source) h = absurd (cc)
  head_legal (an_upset from) (Price w l fact) h = absurd (cc)
  head_legal (an_upset from) (Outcome w l) h = absurd (cc)
  head_legal (an_upset from) Stray h = absurd (cc)
  head_legal (a_price a b other) (Price w l fact) h = price_no_head (opponents n w l) (eqb w a && eqb l b) w l fact other h
  head_legal (a_price a b other) (Head size source) h = absurd (cc)
  head_legal (a_price a b other) (Upset w l) h = absurd (cc)
  head_legal (a_price a b other) (Outcome w l) h = absurd (cc)
  head_legal (a_price a b other) Stray h = absurd (cc)
  head_legal nothing word h = absurd (cc)

-- a head is no row
pub head_no_row : {P : Type 0} (word : Word) (a b : ℕ) (facts : Option ℕ × Option ℕ) → judged_head word ≡ Ok (row a b facts) → P
head_no_row (Head size source) a b facts h = go (legal size) (kind_of source) h
  where
    go : {Q : Type 0} (g : Bool) (j : Result SourceKind Refusal) → ◌≡◌ {A = Result Said Refusal} (cond (not g) (Err SizeNotAllowed) (sourced size j)) (Ok (row a b facts)) → Q
    go false j q = absurd (cc)
    go true (Ok k) q = absurd (cc)
    go true (Err e) q = absurd (cc)
head_no_row (Price w l fact) a b facts h = absurd (cc)
head_no_row (Upset w l) a b facts h = absurd (cc)
head_no_row (Outcome w l) a b facts h = absurd (cc)
head_no_row Stray a b facts h = absurd (cc)
