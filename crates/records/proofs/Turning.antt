-- The turns of the pass over the words. Assumes nothing.
use Rattle.std.proofs.Common.{◌≡◌, ℕ, zero, suc, ◌+◌, ◌-◌, ◌^◌, ◌<◌, ◌≤◌, Bool, true, false, cond, List, [], ◌∷◌, length, get_or, Some, None, Ok, Err, Option, Result, sym, refl, ap, ◌∙◌, subst, ap₂, append-nil, arith}
use mathlib.Core.Bool.{and-true}
use lib.Bits.{bit_or}
use Rattle.std.specs.Option.{option_map, ok_or}
use Rattle.facts.specs.declared.refusals.Refusal.{Refusal}
use Rattle.facts.specs.declared.refusals.Refusal.TheVariants.{RecordWordMisplaced, MatchImpossible}
use Rattle.facts.proofs.Refusing.{answered_so, answered_not}
use Rattle.algebra.specs.Semirings.{Semiring, LawfulSemiring}
use Rattle.figures.specs.Brackets.{rounds}
use Rattle.figures.specs.Fields.{Field}
use Rattle.records.specs.declared.words.Match.{Match}
use Rattle.records.specs.Words.{leaf_shaped, match_shaped, match_in}
use Rattle.records.specs.Records.{word_count}
use Rattle.records.specs.Places.{places, first_of, leaf_refusal, match_refusal, misplaced}
use Rattle.records.specs.Matches.{agrees, fair_here}
use Rattle.records.specs.Readings.{win_of, wins_in, Read}
use Rattle.records.specs.Refusing.{place_refusal, matches_refusal}
use Rattle.records.proofs.Behind.{length_places}
use Rattle.records.proofs.Deciding.{Sized}
use Rattle.records.proofs.Fields.{leaf_stray, match_stray}
use Rattle.records.proofs.Pending.{pending, after_first, front_is, Under, under_halves, halves, left_match, enough}
use Rattle.records.proofs.Passing.{all_fair, all_agree, after, grown, outcome, concluded, nothing_left, outcome_is}

-- where the pass stands: the words to come are those of the parts to come, and what is found from here on is what is found in all
pub record Stand {M : Type 0} (A : Semiring M) (f : Field) (words parts : List ℕ) (seen : ℕ) (x : Option M) (rest : List ℕ) : Type 0 where
  pub under : Under 4 parts
  pub left : length rest ≡ length (pending parts)
  pub same : outcome A f 0 (Some A.one) (places (rounds f.size)) words ≡ outcome A f seen x (pending parts) rest

module _ {M : Type 0} (A : Semiring M) (f : Field) (ws : List ℕ) where
  pub begins : (k : ℕ) (x : M) → Sized f.size → k ≡ rounds f.size → length ws ≡ word_count f.size → x ≡ A.one
      → Stand A f ws (k ∷ []) 0 (Some x) ws
  begins k x z e len one =
      let few = z.few in
      let count : word_count f.size ≡ word_count (2 ^ rounds f.size) = ap (λ (m : ℕ). word_count m) z.power in
      record {
        under = (omega arith, tt);
        left = len ∙ count ∙ sym (length_places (rounds f.size)) ∙ ap (λ j. length (places j)) (sym e) ∙ ap length (sym (append-nil (places k)));
        same = ap₂ (λ y js. outcome A f 0 (Some y) js ws) (sym one) (ap places (sym e) ∙ sym (append-nil (places k)));
      }

-- ---- one word

-- what is found from a leaf on, and from a match of j + 1 rounds on, by the refusal of its word
module _ {M : Type 0} (A : Semiring M) (f : Field) (seen : ℕ) (x : Option M) (T R : List ℕ) where
  abbrev from_leaf : Option Refusal → Result (Option M) Refusal
  from_leaf = λ o. after A f o (outcome A f (bit_or seen (2 ^ get_or R 0 0)) x (pending T) (after_first R))

  abbrev from_match : ℕ → Bool → M → Option Refusal → Result (Option M) Refusal
  from_match j b y = λ o. after A f o (outcome A f seen (grown A x b y) (pending (j ∷ j ∷ T)) (after_first R))

-- the refusal of a word ends the pass
module _ {M : Type 0} (A : Semiring M) (f : Field) (ws : List ℕ) where
  stopped : LawfulSemiring A → (e : Refusal) → outcome A f 0 (Some A.one) (places (rounds f.size)) ws ≡ Err e → place_refusal f.size ws ≡ Some e
  stopped law e h = go (misplaced f.size 0 (places (rounds f.size)) ws) refl (sym (outcome_is A f law 0 (Some A.one) (places (rounds f.size)) ws) ∙ h)
    where
      go : (o : Option Refusal) → misplaced f.size 0 (places (rounds f.size)) ws ≡ o
          → concluded A f o (grown A (Some A.one) (all_fair (places (rounds f.size)) ws) (wins_in A f (places (rounds f.size)) ws)) ≡ Err e
          → place_refusal f.size ws ≡ Some e
      go (Some d) p q = cc
      go None p q = cc

module _ {M : Type 0} {A : Semiring M} {f : Field} {ws S : List ℕ} {seen : ℕ} {x : Option M} {R : List ℕ} (i : Stand A f ws S seen x R) (some : 0 < length R) where
  module _ (k : ℕ) (T : List ℕ) (is : S ≡ k ∷ T) where
    -- the next part is one of j rounds
    opened : (j : ℕ) → k ≡ j → Stand A f ws (j ∷ T) seen x R
    opened j e = let P : List ℕ → Type 0 = λ p. Stand A f ws p seen x R in subst P (is ∙ ap (λ n. n ∷ T) e) i

    pub both_to_come : 0 < k → 2 ^ k - 1 + k ≤ length (after_first R)
    both_to_come h = enough R T some k h (opened k refl).left

    at_leaf : k ≡ 0 → outcome A f 0 (Some A.one) (places (rounds f.size)) ws ≡ from_leaf A f seen x T R (leaf_refusal f.size seen (get_or R 0 0))
    at_leaf e = (opened 0 e).same ∙ ap (outcome A f seen x (pending (0 ∷ T))) (front_is R some)

    pub leaf_refused : LawfulSemiring A → (e : Refusal) → k ≡ 0 → leaf_refusal f.size seen (get_or R 0 0) ≡ Some e → place_refusal f.size ws ≡ Some e
    leaf_refused law e z h = stopped A f ws law e (at_leaf z ∙ ap (from_leaf A f seen x T R) h)

    at_match : (j : ℕ) → k ≡ suc j → outcome A f 0 (Some A.one) (places (rounds f.size)) ws
        ≡ from_match A f seen x T R j (fair_here (suc j) (match_in (get_or R 0 0)) (after_first R)) (win_of A f (match_in (get_or R 0 0))) (match_refusal (get_or R 0 0))
    at_match j e = (opened (suc j) e).same ∙ halves R T some (outcome A f seen x) j

    -- t is the match that the word tells
    pub match_turn : (j : ℕ) (t : Match) (b : Bool) (y : M) → k ≡ suc j → match_refusal (get_or R 0 0) ≡ None
        → t ≡ match_in (get_or R 0 0) → b ≡ fair_here k t (after_first R) → y ≡ win_of A f t
        → Stand A f ws (j ∷ j ∷ T) seen (grown A x b y) (after_first R)
    match_turn j t b y e none told fair won =
        let m : Match = match_in (get_or R 0 0) in
        let is : fair_here (suc j) m (after_first R) ≡ b = sym (fair ∙ ap₂ (λ n u. fair_here n u (after_first R)) e told) in
        let worth : win_of A f m ≡ y = sym (won ∙ ap (win_of A f) told) in
        record {
          under = under_halves 4 j T (opened (suc j) e).under;
          left = left_match R T some j (opened (suc j) e).left;
          same =
              at_match j e
              ∙ ap (from_match A f seen x T R j (fair_here (suc j) m (after_first R)) (win_of A f m)) none
              ∙ ap₂ (λ d z. from_match A f seen x T R j d z None) is worth;
        }

    match_refused : LawfulSemiring A → (e : Refusal) (j : ℕ) → k ≡ suc j → match_refusal (get_or R 0 0) ≡ Some e → place_refusal f.size ws ≡ Some e
    match_refused law e j z h =
        stopped A f ws law e (at_match j z ∙ ap (from_match A f seen x T R j (fair_here (suc j) (match_in (get_or R 0 0)) (after_first R)) (win_of A f (match_in (get_or R 0 0)))) h)

    -- a word that is no leaf where a leaf is awaited, or no match where a match is
    pub strayed : LawfulSemiring A → (k ≡ 0 → leaf_shaped (get_or R 0 0) ≡ false) → (0 < k → match_shaped (get_or R 0 0) ≡ false)
        → place_refusal f.size ws ≡ Some RecordWordMisplaced
    strayed law no_leaf no_match = go k refl
      where
        go : (n : ℕ) → k ≡ n → place_refusal f.size ws ≡ Some RecordWordMisplaced
        go zero e = leaf_refused law RecordWordMisplaced e (leaf_stray f.size seen (get_or R 0 0) (no_leaf e))
        go (suc j) e = match_refused law RecordWordMisplaced j e (match_stray (get_or R 0 0) (no_match (omega arith)))

-- ---- the end

module _ {M : Type 0} {A : Semiring M} {f : Field} {ws S : List ℕ} {seen : ℕ} {x : Option M} {R : List ℕ} (i : Stand A f ws S seen x R) where
  pub finished : LawfulSemiring A → length R ≡ 0 → Sized f.size → length ws ≡ word_count f.size
      → (place_refusal f.size ws ≡ None) × (grown A (Some A.one) (agrees (rounds f.size) ws) (wins_in A f (places (rounds f.size)) ws) ≡ x)
  finished law none z len =
      go (misplaced f.size 0 (places k) ws) refl
      (sym (outcome_is A f law 0 (Some A.one) (places k) ws) ∙ i.same ∙ nothing_left A f seen x (pending S) R none)
    where
      k : ℕ
      k = rounds f.size

      go : (o : Option Refusal) → misplaced f.size 0 (places k) ws ≡ o
          → concluded A f o (grown A (Some A.one) (all_fair (places k) ws) (wins_in A f (places k) ws)) ≡ Ok x
          → (place_refusal f.size ws ≡ None) × (grown A (Some A.one) (agrees k ws) (wins_in A f (places k) ws) ≡ x)
      go (Some e) p q = cc
      go None p q =
          let same : grown A (Some A.one) (all_fair (places k) ws) (wins_in A f (places k) ws) ≡ x = cc in
          let count : word_count f.size ≡ word_count (2 ^ k) = ap (λ (m : ℕ). word_count m) z.power in
          let all : agrees k ws ≡ all_fair (places k) ws =
          sym (ap (λ js. all_fair js ws) (sym (append-nil (places k))) ∙ all_agree k [] ws (omega arith) ∙ and-true (agrees k ws)) in
          (p, ap (λ b. grown A (Some A.one) b (wins_in A f (places k) ws)) all ∙ same)

module _ {V M : Type 0} (means : V → M) (A : Semiring M) (f : Field) (ws : List ℕ) where
  pub refused_by_word : (e : Refusal) → place_refusal f.size ws ≡ Some e → Read means A f ws (Err e)
  refused_by_word e h = answered_not _ _ e (ap (λ o. first_of o (matches_refusal f.size ws)) h)

  -- no word is refused, and this product is left at the end
  pub read_through : LawfulSemiring A → (x : Option V)
      → (place_refusal f.size ws ≡ None) × (grown A (Some A.one) (agrees (rounds f.size) ws) (wins_in A f (places (rounds f.size)) ws) ≡ option_map means x)
      → Read means A f ws (ok_or x MatchImpossible)
  read_through law x (placed, h) = go x (agrees (rounds f.size) ws) refl h
    where
      worth : M
      worth = wins_in A f (places (rounds f.size)) ws

      refusal_is : (b : Bool) → agrees (rounds f.size) ws ≡ b → first_of (place_refusal f.size ws) (matches_refusal f.size ws) ≡ cond b None (Some MatchImpossible)
      refusal_is b e = ap₂ (λ o c. first_of o (cond c None (Some MatchImpossible))) placed e

      go : (x : Option V) (b : Bool) → agrees (rounds f.size) ws ≡ b → grown A (Some A.one) b worth ≡ option_map means x → Read means A f ws (ok_or x MatchImpossible)
      go (Some v) true e h = answered_so _ _ v (refusal_is true e) (let same : A.times A.one worth ≡ means v = cc in sym same ∙ law.times_one worth)
      go None false e h = answered_not _ _ MatchImpossible (refusal_is false e)
      go (Some v) false e h = cc
      go None true e h = cc
