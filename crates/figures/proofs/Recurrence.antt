-- The figure of a set by its halves. Assumes nothing.
use Rattle.std.proofs.Common.{◌≡◌, ℕ, suc, ◌-◌, ◌^◌, ◌<◌, ◌≤◌, Bool, true, false, not, ◌&&◌, eqb, List, [], ◌∷◌, filter, sym, refl, ap, ◌∙◌, ap₂, inl, inr, arith}
use lib.Count.{ones}
use Rattle.std.specs.List.{range_with_len}
use Rattle.std.proofs.lemmas.Bool.{eqb-true, both_ways, cases_Bool}
use Rattle.figures.specs.Lists.{gather}
use Rattle.algebra.specs.Semirings.{Semiring, LawfulSemiring}
use Rattle.figures.specs.Sums.{over}
use Rattle.figures.specs.Fields.{Field}
use Rattle.figures.specs.Sets.{has, half, members, lowest, halves}
use Rattle.figures.specs.Brackets.{first, second, Filled, match, pick, champion, listed_in}
use Rattle.figures.specs.Figures.{worth, by_halves}
use Rattle.figures.proofs.Sums.{when, over_same, over_same_in, over_gather, over_kept, over_nothing, over_plus, over_times, over_times_r, over_swap, range_back, pick_one, when_swap, when_both, when_plus, when_not, plus_nothing_r}
use Rattle.figures.proofs.Lists.{counting_in}
use Rattle.figures.proofs.Champions.{Within, champion_within, lowest_in_lem, listed_size}
use Rattle.figures.proofs.Bits.{half_parts, half_rest, has_rest}

-- the figure, told the rounds
unfoldable pub figure_in : {M : Type 0} → Semiring M → Field → ℕ → ℕ → ℕ → M
figure_in A f k s w = over A (filter (λ t. eqb (champion t) w) (listed_in f k s)) (worth A f)

module _ {M : Type 0} (A : Semiring M) (L : LawfulSemiring A) (f : Field) where
  -- the price of w against b
  price : ℕ → ℕ → M
  price w b = A.weight (f.beats w b)

  -- a figure, as a sum with a test
  pub figure_when : (k s w : ℕ) → figure_in A f k s w ≡ over A (listed_in f k s) (λ t. when A (eqb (champion t) w) (worth A f t))
  unfolding figure_in
  figure_when k s w = over_kept A L (λ t. eqb (champion t) w) (listed_in f k s) (worth A f)

  -- a sum over members within, at the one that a test keeps
  pick_member : (s c : ℕ) (v : M) → Within f s c → over A (members f s) (λ b. when A (eqb c b) v) ≡ v
  unfolding members when
  pick_member s c v h =
      over_kept A L (has s) (range_with_len 0 f.size) (λ b. when A (eqb c b) v)
      ∙ over_same A (range_with_len 0 f.size) _ _ (λ b. when_swap A L (has s b) (eqb c b) v)
      ∙ pick_one A L c f.size (λ b. when A (has s b) v) h.1
      ∙ ap (λ x. when A x v) h.0

  -- a sum over the brackets on s, grouped by champion
  grouped : (k s : ℕ) (g : Filled → M) → over A (listed_in f k s) g ≡ over A (members f s) (λ b. over A (listed_in f k s) (λ t. when A (eqb (champion t) b) (g t)))
  grouped k s g =
      sym (over_same_in A (listed_in f k s) _ _ (λ t i. pick_member s (champion t) (g t) (champion_within f k s t i)))
      ∙ over_swap A L (listed_in f k s) (members f s) (λ t b. when A (eqb (champion t) b) (g t))

  -- w comes out of a, and beats some c who comes out of b
  meeting : ℕ → ℕ → ℕ → ℕ → M
  meeting k a b w = over A (members f b) (λ c. A.times (A.times (figure_in A f k a w) (figure_in A f k b c)) (price w c))

  -- where the first's champion is w
  won : ℕ → Filled → Filled → M
  won w l r = when A (eqb (champion l) w) (A.times (A.times (worth A f l) (worth A f r)) (price (champion l) (champion r)))

  won_split : (w : ℕ) (l r : Filled) → won w l r ≡ A.times (when A (eqb (champion l) w) (worth A f l)) (A.times (worth A f r) (price w (champion r)))
  unfolding won when
  won_split w l r = elim (cases_Bool (eqb (champion l) w)) [
    | inl e ↦ rw (e, L.times_assoc, eqb-true (champion l) w e) refl
    | inr e ↦ rw (e, L.times_nothing) refl
  ]

  beaten : (k b w : ℕ) → over A (listed_in f k b) (λ r. A.times (worth A f r) (price w (champion r))) ≡ over A (members f b) (λ c. A.times (figure_in A f k b c) (price w c))
  unfolding when
  beaten k b w =
      grouped k b (λ r. A.times (worth A f r) (price w (champion r)))
      ∙ over_same A (members f b) _ _ each
    where
      inner : (c : ℕ) (r : Filled) (x : Bool) → eqb (champion r) c ≡ x
          → when A x (A.times (worth A f r) (price w (champion r))) ≡ A.times (when A x (worth A f r)) (price w c)
      inner c r true e = ap (λ x. A.times (worth A f r) (price w x)) (eqb-true (champion r) c e)
      inner c r false e = sym (L.times_nothing (price w c))

      each : (c : ℕ) → over A (listed_in f k b) (λ r. when A (eqb (champion r) c) (A.times (worth A f r) (price w (champion r)))) ≡ A.times (figure_in A f k b c) (price w c)
      each c =
          over_same A (listed_in f k b) _ _ (λ r. inner c r (eqb (champion r) c) refl)
          ∙ over_times_r A L (price w c) (listed_in f k b) _
          ∙ ap (λ x. A.times x (price w c)) (sym (figure_when k b c))

  won_all : (k a b w : ℕ) → over A (listed_in f k a) (λ l. over A (listed_in f k b) (λ r. won w l r)) ≡ meeting k a b w
  unfolding meeting
  won_all k a b w =
      over_same A (listed_in f k a) _ _ (λ l. over_same A (listed_in f k b) _ _ (won_split w l) ∙ over_times A L _ (listed_in f k b) _)
      ∙ over_times_r A L _ (listed_in f k a) _
      ∙ ap₂ A.times (sym (figure_when k a w)) (beaten k b w)
      ∙ sym (over_times A L (figure_in A f k a w) (members f b) _)
      ∙ over_same A (members f b) _ _ (λ c. sym (L.times_assoc (figure_in A f k a w) (figure_in A f k b c) (price w c)))

  -- the two results of one match
  both_results : (w : ℕ) (l r : Filled)
      → over A (match first l r ∷ match second l r ∷ []) (λ t. when A (eqb (champion t) w) (worth A f t)) ≡ A.plus (won w l r) (won w r l)
  unfolding over champion worth pick won price
  both_results w l r =
      ap (A.plus (won w l r))
      (plus_nothing_r A L (when A (eqb (champion r) w) (A.times (A.times (worth A f l) (worth A f r)) (price (champion r) (champion l))))
      ∙ ap (λ x. when A (eqb (champion r) w) (A.times x (price (champion r) (champion l)))) (L.times_comm (worth A f l) (worth A f r)))

  -- all matches between brackets on a and brackets on b
  all_results : (k a b w : ℕ)
      → over A (gather (listed_in f k a) λ l. gather (listed_in f k b) λ r. match first l r ∷ match second l r ∷ []) (λ t. when A (eqb (champion t) w) (worth A f t))
      ≡ A.plus (meeting k a b w) (meeting k b a w)
  all_results k a b w =
      let ls : List Filled = listed_in f k a in
      let rs : List Filled = listed_in f k b in
      over_gather A L ls _ _
      ∙ over_same A ls _ _ (λ l. over_gather A L rs _ _ ∙ over_same A rs _ _ (both_results w l) ∙ over_plus A L rs (won w l) (λ r. won w r l))
      ∙ over_plus A L ls _ _
      ∙ ap₂ A.plus (won_all k a b w) (over_swap A L ls rs (λ l r. won w r l) ∙ won_all k b a w)

  -- nobody wins a bracket that he is not in
  pub figure_none : (k s w : ℕ) → has s w ≡ false → figure_in A f k s w ≡ A.nothing
  unfolding when
  figure_none k s w h =
      figure_when k s w
      ∙ over_same_in A (listed_in f k s) _ _ (λ t i. elim (cases_Bool (eqb (champion t) w)) [
        | inl e ↦ absurd (both_ways (has s w) h (rw (← eqb-true (champion t) w e) (champion_within f k s t i).0))
        | inr e ↦ rw e refl
      ])
      ∙ over_nothing A L (listed_in f k s)

  meeting_none : (k a b w : ℕ) → has a w ≡ false → meeting k a b w ≡ A.nothing
  unfolding meeting
  meeting_none k a b w h =
      over_same A (members f b) _ _ (λ c. rw (figure_none k a w h, L.times_nothing (figure_in A f k b c)) (L.times_nothing (price w c)))
      ∙ over_nothing A L (members f b)

  -- a set that has not 2 ^ k members has no bracket of k rounds
  pub figure_off : (k s w : ℕ) → (ones s ≡ 2 ^ k → ⊥) → figure_in A f k s w ≡ A.nothing
  figure_off k s w h =
      figure_when k s w
      ∙ over_same_in A (listed_in f k s) _ _ (λ t i. absurd (h (listed_size f k s t i)))
      ∙ over_nothing A L (listed_in f k s)

  module _ (k s w : ℕ) (o : ℕ) (o-in : has s o ≡ true) where
    -- seen from the half a
    F : ℕ → M
    F a = meeting k a (s - a) w

    G : ℕ → M
    G a = meeting k (s - a) a w

    -- the rest of a, seen from a
    turned : (a : ℕ) → a ≤ s → when A (half s (s - a) && has (s - a) o) (G (s - a)) ≡ when A (half s a && not (has a o)) (F a)
    unfolding F G when
    turned a l = go (half s a) (half s (s - a)) refl refl
      where
        back : s - (s - a) ≡ a
        back = omega arith

        go : (x y : Bool) → half s a ≡ x → half s (s - a) ≡ y → when A (y && has (s - a) o) (G (s - a)) ≡ when A (x && not (has a o)) (F a)
        go true true p q =
            ap₂ (λ b c. when A b (meeting k c (s - a) w)) (has_rest s a o (half_parts s a p).0 o-in) back
        go true false p q = absurd (both_ways (half s (s - a)) q (half_rest s a p))
        go false true p q = absurd (both_ways (half s a) p (ap (half s) (sym back) ∙ half_rest s (s - a) q))
        go false false p q = refl

    held : (a : ℕ) → when A (half s a) (F a) ≡ when A (half s a && has a w) (F a)
    unfolding F when
    held a = sym (when_both A L (half s a) (has a w) (F a) ∙ ap (when A (half s a)) (elim (cases_Bool (has a w)) [
      | inl e ↦ rw e refl
      | inr e ↦ rw e (sym (meeting_none k a (s - a) w e))
    ]))

    joined : (x y : Bool) (v : M) → A.plus (when A (x && y) v) (when A (x && not y) v) ≡ when A x v
    unfolding when
    joined true y v = when_not A L y v
    joined false y v = L.plus_nothing A.nothing

    unordered : over A (halves f s o) (λ a. A.plus (F a) (G a)) ≡ over A (halves f s w) F
    unfolding halves
    unordered =
        let all : List ℕ = range_with_len 0 (suc s) in
        let P : ℕ → Bool = λ a. half s a && has a o in
        let g : ℕ → M = λ a. when A (P a) (G a) in
        over_kept A L P all _
        ∙ over_same A all _ _ (λ a. when_plus A L (P a) (F a) (G a))
        ∙ over_plus A L all (λ a. when A (P a) (F a)) g
        ∙ ap (A.plus (over A all (λ a. when A (P a) (F a))))
        (sym (range_back A L (suc s) g)
        ∙ over_same_in A all _ _ (λ a i.
        let l = counting_in a 0 (suc s) i in
        let e : suc s - suc a ≡ s - a = omega arith in
        ap g e ∙ turned a (omega arith)))
        ∙ sym (over_plus A L all _ _)
        ∙ over_same A all _ _ (λ a. joined (half s a) (has a o) (F a) ∙ held a)
        ∙ sym (over_kept A L (λ a. half s a && has a w) all F)

  pub recurrence_at : (k s w : ℕ) → s < 2 ^ f.size → 0 < s → figure_in A f (suc k) s w ≡ by_halves A f (figure_in A f k) s w
  unfolding listed_in by_halves meeting price F G
  recurrence_at k s w h p =
      figure_when (suc k) s w
      ∙ over_gather A L (halves f s (lowest f s)) _ _
      ∙ over_same A (halves f s (lowest f s)) _ _ (λ a. all_results k a (s - a) w)
      ∙ unordered k s w (lowest f s) (lowest_in_lem f s h p).0
