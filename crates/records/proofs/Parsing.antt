-- Words that pass their places, and whose matches agree, are the record of a bracket. Assumes nothing.
use Rattle.std.proofs.Common.{◌≡◌, ℕ, zero, suc, ◌+◌, ◌^◌, ◌<◌, ◌≤◌, true, ◌&&◌, ◌⊎◌, List, [], ◌∷◌, ◌++◌, length, None, sym, refl, ap, ◌∙◌, subst, ap₂, inl, inr, append_assoc, add_assoc, arith, length-drop}
use lib.Bits.{bit_or, or_disjoint}
use lib.Pow.{pow-lt}
use Rattle.std.proofs.lemmas.Bool.{and_parts}
use Rattle.figures.specs.Sets.{Apart}
use Rattle.figures.specs.Brackets.{Side, first, second, Filled, sole, match, pick, champion, On}
use Rattle.records.specs.Words.{match_word, match_shaped, named, match_in}
use Rattle.records.specs.Records.{rounds_of, record_words, word_count}
use Rattle.records.specs.Places.{places, leaf_refusal, match_refusal, misplaced}
use Rattle.records.specs.Matches.{champion_in, behind, lowest_in, fair_over, agrees}
use Rattle.records.proofs.Unions.{apart_comm, apart_split, apart_join, sum_below, one_apart}
use Rattle.records.proofs.Standing.{opening, on_both}
use Rattle.records.proofs.Behind.{count_more, behind_more}
use Rattle.records.proofs.Fields.{passed, leaf_passed, match_passed, word_is, Names, fair_parts}

-- the bracket that the part of k rounds at the front of the words tells, where `seen` were named before
pub record Parsed (k n seen : ℕ) (ks ws : List ℕ) : Type 0 where
  pub told : Filled
  pub whole : ℕ
  pub on : On whole told
  pub new : Apart seen whole
  pub below : whole < 2 ^ n
  pub levels : rounds_of told ≡ k
  pub opens : opening told ≡ lowest_in k ws
  pub wins : champion told ≡ champion_in ws
  pub is : ws ≡ record_words told ++ behind k ws
  pub next : misplaced n (seen + whole) ks (behind k ws) ≡ None

leaf : (n seen w : ℕ) (ks ws : List ℕ) → misplaced n seen (0 ∷ ks) (w ∷ ws) ≡ None → Parsed 0 n seen ks (w ∷ ws)
unfolding champion record_words
leaf n seen w ks ws h =
    let p = passed (leaf_refusal n seen w) (misplaced n (bit_or seen (2 ^ w)) ks ws) h in
    let q = leaf_passed n seen w p.0 in
    let small : w < 16 = q.0 in
    let a = one_apart seen w q.2 in
    record {
      told = sole w;
      whole = 2 ^ w;
      on = refl;
      new = a;
      below = pow-lt q.1;
      levels = refl;
      opens = omega arith;
      wins = omega arith;
      is = refl;
      next = ap (λ v. misplaced n v ks ws) (sym (or_disjoint seen (2 ^ w) a)) ∙ p.1;
    }

-- the word of a match of two brackets
abbrev pub top : Side → Filled → Filled → ℕ
top side l r = match_word (suc (rounds_of l)) (pick side (champion l) (champion r)) (pick side (champion r) (champion l))

-- the side that the winner is on, and the word of the match
told_side : (w : ℕ) (l r : Filled) → match_shaped w ≡ true → (match_in w).round ≡ suc (rounds_of l)
    → Names w (champion l) (champion r) ⊎ Names w (champion r) (champion l)
    → (side : Side) × (pick side (champion l) (champion r) ≡ named w)
    × (w ≡ top side l r)
unfolding pick
told_side w l r shape round (inl p) =
    (first, sym p.0, word_is w shape ∙ ap₂ (λ a b. match_word (match_in w).round a b) p.0 p.1 ∙ ap (λ k. match_word k (champion l) (champion r)) round)
told_side w l r shape round (inr p) =
    (second, sym p.0, word_is w shape ∙ ap₂ (λ a b. match_word (match_in w).round a b) p.0 p.1 ∙ ap (λ k. match_word k (champion r) (champion l)) round)

record_both : (side : Side) (l r : Filled) (w : ℕ) (ws us vs : List ℕ) → w ≡ top side l r → ws ≡ record_words l ++ us → us ≡ record_words r ++ vs
    → w ∷ ws ≡ record_words (match side l r) ++ vs
unfolding record_words
record_both side l r w ws us vs e p q =
    ap₂ (λ v zs. v ∷ zs) e (p ∙ ap (λ zs. record_words l ++ zs) q ∙ sym (append_assoc (record_words l) (record_words r) vs))

module _ (k n seen w : ℕ) (ks ws : List ℕ) (x : Parsed k n seen (places k ++ ks) ws) (y : Parsed k n (seen + x.whole) ks (behind k ws)) where
  both : match_shaped w ≡ true
      → fair_over k (match_in w) ws ≡ true
      → Parsed (suc k) n seen ks (w ∷ ws)
  unfolding champion record_words
  both shape f =
      let l = x.told in
      let r = y.told in
      let a = x.whole in
      let b = y.whole in
      let p = fair_parts (suc k) w (champion_in ws) (champion_in (behind k ws)) (lowest_in k ws) (lowest_in k (behind k ws)) f in
      let N : ℕ → ℕ → Type 0 = λ c d. Names w c d ⊎ Names w d c in
      let names : N (champion l) (champion r) =
      subst (λ (c : ℕ). N c (champion r)) (sym x.wins) (subst (λ (d : ℕ). N (champion_in ws) d) (sym y.wins) p.2) in
      let s = told_side w l r shape (p.0 ∙ ap suc (sym x.levels)) names in
      let sp = apart_split seen a b x.new y.new in
      record {
        told = match s.0 l r;
        whole = a + b;
        on = on_both s.0 l r a b sp.1 (x.levels ∙ sym y.levels) (omega (arith, x.opens, y.opens, p.1)) x.on y.on;
        new = apart_comm (a + b) seen (apart_join a b seen sp.1 (apart_comm seen a x.new) (apart_comm seen b sp.0));
        below = sum_below n a b sp.1 x.below y.below;
        levels = ap suc x.levels;
        opens = omega (arith, x.opens, p.1);
        wins = s.1;
        is = record_both s.0 l r w ws (behind k ws) (behind (suc k) (w ∷ ws)) s.2 x.is (y.is ∙ ap (λ zs. record_words r ++ zs) (sym (behind_more k w ws)));
        next = ap₂ (λ v zs. misplaced n v ks zs) (sym (add_assoc seen a b)) (behind_more k w ws) ∙ y.next;
      }

pub parsed : (k n seen : ℕ) (ks ws : List ℕ) → word_count (2 ^ k) ≤ length ws → misplaced n seen (places k ++ ks) ws ≡ None → agrees k ws ≡ true → Parsed k n seen ks ws
parsed zero n seen ks [] l h a = absurd (omega arith)
parsed zero n seen ks (w ∷ ws) l h a = leaf n seen w ks ws h
parsed (suc k) n seen ks [] l h a = absurd (omega (arith, count_more k))
parsed (suc k) n seen ks (w ∷ ws) l h a =
    let c = count_more k in
    let p = passed (match_refusal w) (misplaced n seen ((places k ++ places k) ++ ks) ws) h in
    let f = and_parts (fair_over k (match_in w) ws) (agrees k ws && agrees k (behind k ws)) a in
    let g = and_parts (agrees k ws) (agrees k (behind k ws)) f.1 in
    let x = parsed k n seen (places k ++ ks) ws (omega arith) (ap (λ js. misplaced n seen js ws) (sym (append_assoc (places k) (places k) ks)) ∙ p.1) g.0 in
    let y = parsed k n (seen + x.whole) ks (behind k ws) (omega (arith, length-drop (word_count (2 ^ k)) ws)) x.next g.1 in
    both k n seen w ks ws x y (match_passed w p.0) f.0
