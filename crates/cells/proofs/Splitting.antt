-- Each split of a set once, seen from both sides. Assumes nothing.
use Rattle.std.proofs.Common.{◌≡◌, ℕ, suc, ◌-◌, ◌≤◌, Bool, true, false, cond, not, ◌&&◌, List, sym, refl, ap, ◌∙◌, ap₂, arith}
use Rattle.std.specs.List.{range_with_len}
use Rattle.std.proofs.lemmas.Bool.{both_ways}
use Rattle.algebra.specs.Semirings.{Semiring, LawfulSemiring}
use Rattle.figures.specs.Sums.{over}
use Rattle.figures.specs.Sets.{has, half, members, halves}
use Rattle.figures.proofs.Sums.{when, over_same, over_same_in, over_kept, over_plus, over_times, range_back, when_both, when_plus, when_not, plus_nothing_r}
use Rattle.figures.proofs.Lists.{counting_in}
use Rattle.figures.proofs.Bits.{half_parts, part_le, half_rest, has_rest}
use Rattle.figures.proofs.Champions.{halves_in}
use Rattle.cells.specs.Splits.{of_size, meeting, by_halves_with, lost_to, won, won_of_split}

module _ {M : Type 0} (A : Semiring M) (L : LawfulSemiring A) where
  -- the winner's cell taken out of the product
  pub taken_out : (weight : ℕ → ℕ → M) (n : ℕ) (f : ℕ → ℕ → M) (a rest w : ℕ) → A.times (f a w) (lost_to A weight n f rest w) ≡ meeting A weight n f a rest w
  unfolding meeting lost_to
  taken_out weight n f a rest w =
      sym (over_times A L (f a w) (members (of_size n) rest) _)
      ∙ over_same A (members (of_size n) rest) _ _ (λ b. sym (L.times_assoc (f a w) (f rest b) (weight w b)))

  module _ (n s o : ℕ) (o-in : has s o ≡ true) (H : ℕ → M) where
    turned : (a : ℕ) → a ≤ s → when A (half s (s - a) && has (s - a) o) (H (s - (s - a))) ≡ when A (half s a && not (has a o)) (H a)
    unfolding when
    turned a l = go (half s a) (half s (s - a)) refl refl
      where
        back : s - (s - a) ≡ a
        back = omega arith

        go : (x y : Bool) → half s a ≡ x → half s (s - a) ≡ y → when A (y && has (s - a) o) (H (s - (s - a))) ≡ when A (x && not (has a o)) (H a)
        go true true p q = ap₂ (λ b (c : ℕ). when A b (H c)) (has_rest s a o (half_parts s a p).0 o-in) back
        go true false p q = absurd (both_ways (half s (s - a)) q (half_rest s a p))
        go false true p q = absurd (both_ways (half s a) p (ap (half s) (sym back) ∙ half_rest s (s - a) q))
        go false false p q = refl

    joined : (x y : Bool) (v : M) → A.plus (when A (x && y) v) (when A (x && not y) v) ≡ when A x v
    unfolding when
    joined true y v = when_not A L y v
    joined false y v = L.plus_nothing A.nothing

    -- over the splits, both sides; over the halves, one
    pub both_sides : over A (halves (of_size n) s o) (λ a. A.plus (H a) (H (s - a))) ≡ over A (range_with_len 0 (suc s)) (λ a. when A (half s a) (H a))
    unfolding halves
    both_sides =
        let all : List ℕ = range_with_len 0 (suc s) in
        let P : ℕ → Bool = λ a. half s a && has a o in
        let g : ℕ → M = λ a. when A (P a) (H (s - a)) in
        over_kept A L P all _
        ∙ over_same A all _ _ (λ a. when_plus A L (P a) (H a) (H (s - a)))
        ∙ over_plus A L all (λ a. when A (P a) (H a)) g
        ∙ ap (A.plus (over A all (λ a. when A (P a) (H a))))
        (sym (range_back A L (suc s) g)
        ∙ over_same_in A all _ _ (λ a i.
        let l = counting_in a 0 (suc s) i in
        let e : suc s - suc a ≡ s - a = omega arith in
        ap g e ∙ turned a (omega arith)))
        ∙ sym (over_plus A L all _ _)
        ∙ over_same A all _ _ (λ a. joined (half s a) (has a o) (H a))

  -- of the two sides, one holds w
  one_side : (weight : ℕ → ℕ → M) (n : ℕ) (f : ℕ → ℕ → M) (s a w : ℕ) → half s a ≡ true → has s w ≡ true
      → won_of_split A weight n f a (s - a) w ≡ A.plus (won A weight n f a (s - a) w) (won A weight n f (s - a) (s - (s - a)) w)
  unfolding won_of_split won
  one_side weight n f s a w h k =
      let p = (half_parts s a h).0 in
      let l = part_le a s p in
      let back : a ≡ s - (s - a) = omega arith in
      let side : Bool → ℕ → M = λ b (c : ℕ). cond b (meeting A weight n f (s - a) c w) A.nothing in
      ap (λ b. cond (has a w) (won A weight n f a (s - a) w) (side b a)) (has_rest s a w p k)
      ∙ go (has a w)
      ∙ ap₂ (λ b (c : ℕ). A.plus (won A weight n f a (s - a) w) (side b c)) (sym (has_rest s a w p k)) back
    where
      go : (b : Bool) → cond b (cond b (meeting A weight n f a (s - a) w) A.nothing) (cond (not b) (meeting A weight n f (s - a) a w) A.nothing)
          ≡ A.plus (cond b (meeting A weight n f a (s - a) w) A.nothing) (cond (not b) (meeting A weight n f (s - a) a w) A.nothing)
      go true = sym (plus_nothing_r A L (meeting A weight n f a (s - a) w))
      go false = sym (L.plus_nothing (meeting A weight n f (s - a) a w))

  -- the splits give the sums
  pub splits : (weight : ℕ → ℕ → M) (n : ℕ) (f : ℕ → ℕ → M) (s o w : ℕ) → has s o ≡ true → has s w ≡ true
      → over A (halves (of_size n) s o) (λ a. won_of_split A weight n f a (s - a) w) ≡ by_halves_with A weight n f s w
  unfolding by_halves_with won halves when
  splits weight n f s o w h k =
      over_same_in A (halves (of_size n) s o) _ _ (λ a i. one_side weight n f s a w (halves_in (of_size n) s o a i).0 k)
      ∙ both_sides n s o h (λ a. won A weight n f a (s - a) w)
      ∙ over_same A (range_with_len 0 (suc s)) _ _ (λ a. sym (when_both A L (half s a) (has a w) (meeting A weight n f a (s - a) w)))
      ∙ sym (over_kept A L (λ a. half s a && has a w) (range_with_len 0 (suc s)) (λ a. meeting A weight n f a (s - a) w))
