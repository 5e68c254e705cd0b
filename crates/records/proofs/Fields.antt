-- The shape and the fields of a word, and what a fair match tells. Assumes nothing.
use Rattle.std.proofs.Common.{◌≡◌, ℕ, ◌<◌, ◌≤◌, Bool, true, false, cond, ◌⊎◌, Some, None, Option, sym, refl, subst, arith}
use Rattle.std.proofs.lemmas.Bool.{cond-true, cond-false}
use Rattle.std.proofs.lemmas.Bool.Decides.{nat_tests}
use Rattle.facts.specs.declared.refusals.Refusal.{Refusal}
use Rattle.facts.specs.declared.refusals.Refusal.TheVariants.{RecordWordMisplaced, LeafImpossible}
use Rattle.figures.specs.Sets.{has}
use Rattle.records.specs.declared.words.Word.{Word}
use Rattle.records.specs.declared.words.Word.TheVariants.{Leaf, Match as match_told, Stray}
use Rattle.records.specs.Words.{match_word, leaf_shaped, match_shaped, named, match_in, word_of}
use Rattle.records.specs.Places.{first_of, leaf_refusal, match_refusal}
use Rattle.records.specs.Matches.{fair}

-- ---- words

pub leaf_small : (w : ℕ) → leaf_shaped w ≡ true → w < 16
leaf_small w h = grind (arith, nat_tests)

small_leaf : (w : ℕ) → w < 16 → leaf_shaped w ≡ true
small_leaf w h = grind (arith, nat_tests)

-- what is known of a match word that tells small numbers
pub record Written (k a b : ℕ) : Type 0 where
  pub shape : match_shaped (match_word k a b) ≡ true
  pub round : (match_in (match_word k a b)).round ≡ k
  pub winner : named (match_word k a b) ≡ a
  pub loser : (match_in (match_word k a b)).loser ≡ b

pub written : (k a b : ℕ) → k < 16 → a < 16 → b < 16 → Written k a b
written k a b p q r =
    let w : ℕ = match_word k a b in
    record {
      shape = grind (arith, nat_tests);
      round = omega arith;
      winner = omega arith;
      loser = omega arith;
    }

-- a word of the shape of a match is told by its fields
pub word_is : (w : ℕ) → match_shaped w ≡ true → w ≡ match_word (match_in w).round (named w) (match_in w).loser
word_is w h = grind (arith, nat_tests)

-- what a word tells of its bits
abbrev pub Tells : Word → ℕ → Type 0
Tells (Leaf entrant) w = (leaf_shaped w ≡ true) × (match_shaped w ≡ false) × (entrant ≡ w)
Tells (match_told told) w = (match_shaped w ≡ true) × (leaf_shaped w ≡ false) × (told ≡ match_in w)
Tells Stray w = (leaf_shaped w ≡ false) × (match_shaped w ≡ false)

leaf_no_match : (w : ℕ) → leaf_shaped w ≡ true → match_shaped w ≡ false
leaf_no_match w h = grind (arith, nat_tests)

tells : (w : ℕ) → Tells (word_of w) w
tells w = go (leaf_shaped w) (match_shaped w) refl refl
  where
    go : (a b : Bool) → leaf_shaped w ≡ a → match_shaped w ≡ b → Tells (cond a (Leaf (named w)) (cond b (match_told (match_in w)) Stray)) w
    go true b p q = let small = leaf_small w p in (p, leaf_no_match w p, omega arith)
    go false true p q = (q, p, refl)
    go false false p q = (p, q)

pub told_by : (word : Word) (w : ℕ) → word ≡ word_of w → Tells word w
told_by word w e = let P : Word → Type 0 = λ v. Tells v w in subst P (sym e) (tells w)

-- ---- refusals

pub passed : (a b : Option Refusal) → first_of a b ≡ None → (a ≡ None) × (b ≡ None)
passed (Some e) b h = cc
passed None b h = (refl, h)

pub kept : (b : Bool) (o : Option Refusal) (e : Refusal) → cond b o (Some e) ≡ None → (b ≡ true) × (o ≡ None)
kept true o e h = (refl, h)
kept false o e h = cc

-- a word that passes for a leaf names an entrant who was not named before
pub leaf_passed : (n seen w : ℕ) → leaf_refusal n seen w ≡ None → (w < 16) × (w < n) × (has seen w ≡ false)
leaf_passed n seen w h = (grind (arith, nat_tests), grind (arith, nat_tests), grind (arith, nat_tests))

pub leaf_passes : (n seen w : ℕ) → w < 16 → w < n → has seen w ≡ false → leaf_refusal n seen w ≡ None
leaf_passes n seen w small below new = let shaped = small_leaf w small in grind (arith, nat_tests)

pub match_passed : (w : ℕ) → match_refusal w ≡ None → match_shaped w ≡ true
match_passed w h = grind (arith, nat_tests)

pub match_passes : (w : ℕ) → match_shaped w ≡ true → match_refusal w ≡ None
match_passes w h = cond-true (match_shaped w) None (Some RecordWordMisplaced) h

-- a leaf that is none of the n entrants, or was named before
pub leaf_unfit : (n seen w : ℕ) → leaf_shaped w ≡ true → (n ≤ w) ⊎ (has seen w ≡ true) → leaf_refusal n seen w ≡ Some LeafImpossible
leaf_unfit n seen w shaped h = grind (arith, nat_tests)

-- a word that is no leaf where a leaf is asked for, or no match where a match is
pub leaf_stray : (n seen w : ℕ) → leaf_shaped w ≡ false → leaf_refusal n seen w ≡ Some RecordWordMisplaced
leaf_stray n seen w h = cond-false (leaf_shaped w) _ _ h

pub match_stray : (w : ℕ) → match_shaped w ≡ false → match_refusal w ≡ Some RecordWordMisplaced
match_stray w h = cond-false (match_shaped w) _ _ h

-- ---- fair matches

-- the word names a as its winner and b as its loser
abbrev pub Names : ℕ → ℕ → ℕ → Type 0
Names w a b = (named w ≡ a) × ((match_in w).loser ≡ b)

pub fair_parts : (k w a b x y : ℕ) → fair k (match_in w) a b x y ≡ true → ((match_in w).round ≡ k) × (x < y) × (Names w a b ⊎ Names w b a)
fair_parts k w a b x y h = (grind (arith, nat_tests), grind (arith, nat_tests), grind (arith, nat_tests))

pub fair_from : (k w a b x y : ℕ) → (match_in w).round ≡ k → x < y → Names w a b ⊎ Names w b a → fair k (match_in w) a b x y ≡ true
fair_from k w a b x y round low names = grind (arith, nat_tests)
