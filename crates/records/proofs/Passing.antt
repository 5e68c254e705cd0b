-- What one pass over the words finds, step by step. Assumes nothing.
use Rattle.std.proofs.Common.{◌≡◌, ℕ, zero, suc, ◌+◌, ◌-◌, ◌*◌, ◌^◌, ◌≤◌, min, Bool, true, false, ◌&&◌, List, [], ◌∷◌, ◌++◌, length, get_or, Some, None, Ok, Err, Option, Result, sym, refl, ap, ◌∙◌, ap₂, append_assoc, arith, length-drop, pow_pos}
use mathlib.Core.Bool.{and-true, and-false}
use lib.Bits.{bit_or}
use Rattle.std.proofs.lemmas.List.{get_or-drop}
use Rattle.std.proofs.lemmas.Bool.{and_parts}
use Rattle.facts.specs.declared.refusals.Refusal.{Refusal}
use Rattle.algebra.specs.Semirings.{Semiring, LawfulSemiring}
use Rattle.figures.specs.Fields.{Field}
use Rattle.records.specs.Words.{named, match_in}
use Rattle.records.specs.Records.{word_count}
use Rattle.records.specs.Places.{places, first_of, leaf_refusal, match_refusal, misplaced}
use Rattle.records.specs.Matches.{champion_in, behind, lowest_in, fair, fair_over, agrees, fair_here}
use Rattle.records.specs.Readings.{win_of, wins_in}
use Rattle.records.proofs.Behind.{count_more, behind_more}
use Rattle.records.proofs.Fields.{fair_parts}

-- ---- matches by single words

-- each match is fair by the words behind it
abbrev pub all_fair : List ℕ → List ℕ → Bool
all_fair [] ws = true
all_fair (zero ∷ ks) [] = true
all_fair (suc k ∷ ks) [] = true
all_fair (zero ∷ ks) (w ∷ ws) = all_fair ks ws
all_fair (suc k ∷ ks) (w ∷ ws) = fair_here (suc k) (match_in w) ws && all_fair ks ws

-- where the matches agree, the lowest entrant of a part of k rounds is the leaf k words on
low_is : (k : ℕ) (ws : List ℕ) → word_count (2 ^ k) ≤ length ws → agrees k ws ≡ true → lowest_in k ws ≡ named (get_or ws k 0)
low_is zero ws l a = refl
low_is (suc k) [] l a = absurd (omega (arith, count_more k))
low_is (suc k) (w ∷ ws) l a =
    let p = and_parts (fair_over k (match_in w) ws) (agrees k ws && agrees k (behind k ws)) a in
    let q = and_parts (agrees k ws) (agrees k (behind k ws)) p.1 in
    let f = fair_parts (suc k) w (champion_in ws) (champion_in (behind k ws)) (lowest_in k ws) (lowest_in k (behind k ws)) p.0 in
    let less = f.1 in
    let ih = low_is k ws (omega (arith, count_more k)) q.0 in
    let first : min (lowest_in k ws) (lowest_in k (behind k ws)) ≡ lowest_in k ws = omega arith in
    first ∙ ih

here_is : (k w : ℕ) (ws : List ℕ) → word_count (2 ^ k) + word_count (2 ^ k) ≤ length ws → agrees k ws ≡ true → agrees k (behind k ws) ≡ true
    → fair_here (suc k) (match_in w) ws ≡ fair_over k (match_in w) ws
here_is k w ws l a b =
    let m : ℕ = word_count (2 ^ k) in
    let p = pow_pos k in
    let d : 2 ^ suc k ≡ 2 * 2 ^ k = omega arith in
    let i : 2 ^ suc k - 1 ≡ m + 0 = omega arith in
    let j : suc k - 1 ≡ k = omega arith in
    let h : 2 ^ suc k - 1 + (suc k - 1) ≡ m + k = omega arith in
    let second : named (get_or ws (2 ^ suc k - 1) 0) ≡ champion_in (behind k ws) = ap (λ (v : ℕ). named v) (ap (λ (v : ℕ). get_or ws v 0) i ∙ sym (get_or-drop m ws 0 0)) in
    let low : named (get_or ws (suc k - 1) 0) ≡ lowest_in k ws = ap (λ (v : ℕ). named (get_or ws v 0)) j ∙ sym (low_is k ws (omega arith) a) in
    let high : named (get_or ws (2 ^ suc k - 1 + (suc k - 1)) 0) ≡ lowest_in k (behind k ws) =
    ap (λ (v : ℕ). named v) (ap (λ (v : ℕ). get_or ws v 0) h ∙ sym (get_or-drop m ws k 0)) ∙ sym (low_is k (behind k ws) (omega (arith, length-drop m ws)) b) in
    ap (λ (v : ℕ). fair (suc k) (match_in w) (champion_in ws) v (named (get_or ws (suc k - 1) 0)) (named (get_or ws (2 ^ suc k - 1 + (suc k - 1)) 0))) second
    ∙ ap₂ (λ (v u : ℕ). fair (suc k) (match_in w) (champion_in ws) (champion_in (behind k ws)) v u) low high

-- tests joined in another order, the first of which hangs on two of the others
regroup : (f g a b c : Bool) → (a ≡ true → b ≡ true → f ≡ g) → (f && (a && (b && c))) ≡ ((g && (a && b)) && c)
regroup f g true true c h = ap (λ v. v && c) (h refl refl ∙ sym (and-true g))
regroup f g true false c h = and-false f ∙ sym (ap (λ v. v && c) (and-false g))
regroup f g false b c h = and-false f ∙ sym (ap (λ v. v && c) (and-false g))

pub all_agree : (k : ℕ) (ks ws : List ℕ) → word_count (2 ^ k) ≤ length ws → all_fair (places k ++ ks) ws ≡ (agrees k ws && all_fair ks (behind k ws))
all_agree zero ks [] l = absurd (omega arith)
all_agree zero ks (w ∷ ws) l = refl
all_agree (suc k) ks [] l = absurd (omega (arith, count_more k))
all_agree (suc k) ks (w ∷ ws) l =
    let c = count_more k in
    let us : List ℕ = behind k ws in
    let g : Bool = fair_over k (match_in w) ws in
    ap (λ b. fair_here (suc k) (match_in w) ws && b)
    (ap (λ js. all_fair js ws) (append_assoc (places k) (places k) ks) ∙ all_agree k (places k ++ ks) ws (omega arith)
    ∙ ap (λ b. agrees k ws && b) (all_agree k ks us (omega (arith, length-drop (word_count (2 ^ k)) ws))))
    ∙ regroup (fair_here (suc k) (match_in w) ws) g (agrees k ws) (agrees k us) (all_fair ks (behind k us)) (here_is k w ws (omega arith))
    ∙ ap (λ zs. (g && (agrees k ws && agrees k us)) && all_fair ks zs) (sym (behind_more k w ws))

-- ---- the pass

module _ {M : Type 0} (A : Semiring M) where
  -- a product with one more factor: none where the match is not fair, or one before it was not
  abbrev pub grown : Option M → Bool → M → Option M
  grown (Some x) true y = Some (A.times x y)
  grown (Some x) false y = None
  grown None b y = None

  module _ (law : LawfulSemiring A) where
    grown_no_more : (x : Option M) → x ≡ grown x true A.one
    grown_no_more (Some x) = ap {B = Option M} (λ (y : M). Some y) (sym (law.times_comm x A.one ∙ law.times_one x))
    grown_no_more None = refl

    grown_on : (x : Option M) (b c : Bool) (y z : M) → grown (grown x b y) c z ≡ grown x (b && c) (A.times y z)
    grown_on (Some x) true true y z = ap {B = Option M} (λ (v : M). Some v) (law.times_assoc x y z)
    grown_on (Some x) true false y z = refl
    grown_on (Some x) false c y z = refl
    grown_on None b c y z = refl

module _ {M : Type 0} (A : Semiring M) (f : Field) where
  abbrev pub after : Option Refusal → Result (Option M) Refusal → Result (Option M) Refusal
  after (Some e) later = Err e
  after None later = later

  -- what the pass finds from here on, with the entrants seen and the product so far
  abbrev pub outcome : ℕ → Option M → List ℕ → List ℕ → Result (Option M) Refusal
  outcome seen x [] ws = Ok x
  outcome seen x (zero ∷ ks) [] = Ok x
  outcome seen x (suc k ∷ ks) [] = Ok x
  outcome seen x (zero ∷ ks) (w ∷ ws) = after (leaf_refusal f.size seen w) (outcome (bit_or seen (2 ^ w)) x ks ws)
  outcome seen x (suc k ∷ ks) (w ∷ ws) =
      after (match_refusal w) (outcome seen (grown A x (fair_here (suc k) (match_in w) ws) (win_of A f (match_in w))) ks ws)

  abbrev pub concluded : Option Refusal → Option M → Result (Option M) Refusal
  concluded (Some e) x = Err e
  concluded None x = Ok x

  pub nothing_left : (seen : ℕ) (x : Option M) (ks ws : List ℕ) → length ws ≡ 0 → outcome seen x ks ws ≡ Ok x
  nothing_left seen x [] ws h = refl
  nothing_left seen x (zero ∷ ks) [] h = refl
  nothing_left seen x (suc k ∷ ks) [] h = refl
  nothing_left seen x (zero ∷ ks) (w ∷ ws) h = absurd (omega (arith, h))
  nothing_left seen x (suc k ∷ ks) (w ∷ ws) h = absurd (omega (arith, h))

  module _ (law : LawfulSemiring A) where
    at_end : (x : Option M) → Ok x ≡ concluded None (grown A x true A.one)
    at_end x = ap {B = Result (Option M) Refusal} (λ (y : Option M). Ok y) (grown_no_more A law x)

    pub outcome_is : (seen : ℕ) (x : Option M) (ks ws : List ℕ)
        → outcome seen x ks ws ≡ concluded (misplaced f.size seen ks ws) (grown A x (all_fair ks ws) (wins_in A f ks ws))
    outcome_is seen x [] ws = at_end x
    outcome_is seen x (zero ∷ ks) [] = at_end x
    outcome_is seen x (suc k ∷ ks) [] = at_end x
    outcome_is seen x (zero ∷ ks) (w ∷ ws) = go (leaf_refusal f.size seen w) (outcome_is (bit_or seen (2 ^ w)) x ks ws)
      where
        go : (o : Option Refusal)
            → outcome (bit_or seen (2 ^ w)) x ks ws ≡ concluded (misplaced f.size (bit_or seen (2 ^ w)) ks ws) (grown A x (all_fair ks ws) (wins_in A f ks ws))
            → after o (outcome (bit_or seen (2 ^ w)) x ks ws)
            ≡ concluded (first_of o (misplaced f.size (bit_or seen (2 ^ w)) ks ws)) (grown A x (all_fair ks ws) (wins_in A f ks ws))
        go (Some e) ih = refl
        go None ih = ih
    outcome_is seen x (suc k ∷ ks) (w ∷ ws) = go (match_refusal w) (outcome_is seen (grown A x b y) ks ws)
      where
        b : Bool
        b = fair_here (suc k) (match_in w) ws

        y : M
        y = win_of A f (match_in w)

        go : (o : Option Refusal)
            → outcome seen (grown A x b y) ks ws ≡ concluded (misplaced f.size seen ks ws) (grown A (grown A x b y) (all_fair ks ws) (wins_in A f ks ws))
            → after o (outcome seen (grown A x b y) ks ws)
            ≡ concluded (first_of o (misplaced f.size seen ks ws)) (grown A x (b && all_fair ks ws) (A.times y (wins_in A f ks ws)))
        go (Some e) ih = refl
        go None ih = ih ∙ ap (concluded (misplaced f.size seen ks ws)) (grown_on A law x b (all_fair ks ws) y (wins_in A f ks ws))
