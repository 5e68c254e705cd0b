-- The figure of every set that is not a single entrant goes by halves. Assumes nothing.
use Rattle.std.proofs.Common.{◌≡◌, ℕ, zero, suc, ◌-◌, ◌*◌, ◌^◌, ◌<◌, true, sym, refl, ap, ◌∙◌, ap₂, inl, inr, arith}
use lib.Count.{ones}
use Rattle.std.proofs.lemmas.Bool.{cases_eq}
use Rattle.algebra.specs.Semirings.{Semiring, LawfulSemiring}
use Rattle.figures.specs.Sums.{over}
use Rattle.figures.specs.Fields.{Field}
use Rattle.figures.specs.Sets.{has, members, halves}
use Rattle.figures.specs.Brackets.{rounds, listed}
use Rattle.figures.specs.Figures.{figure, by_halves}
use Rattle.figures.specs.Theorems.{ByHalves, NoneOutside, NoneOffPowers}
use Rattle.figures.proofs.Sums.{over_same, over_same_in, over_nothing}
use Rattle.figures.proofs.Bits.{half_parts, part_le, ones_sub}
use Rattle.figures.proofs.Rounds.{rounds_pow, power_rounds}
use Rattle.figures.proofs.Champions.{halves_in, members_in}
use Rattle.figures.proofs.Listed.{positive}
use Rattle.figures.proofs.Recurrence.{figure_in, figure_none, figure_off, recurrence_at}

module _ {M : Type 0} (A : Semiring M) (f : Field) where
  -- by_halves reads cells only at halves of s, and there at members of the half
  pub by_halves_same : (s w : ℕ) (c d : ℕ → ℕ → M)
      → ((a e : ℕ) → a < suc s → 2 * ones a ≡ ones s → has a e ≡ true → c a e ≡ d a e) → by_halves A f c s w ≡ by_halves A f d s w
  unfolding by_halves
  by_halves_same s w c d h =
      over_same_in A (halves f s w) (λ a. over A (members f (s - a)) (term c a)) (λ a. over A (members f (s - a)) (term d a)) (λ a i.
      let m = halves_in f s w a i in
      let p = half_parts s a m.0 in
      let u = part_le a s p.0 in
      let q = ones_sub a s p.0 in
      let r = p.1 in
      over_same_in A (members f (s - a)) (term c a) (term d a) (λ b j.
      ap (λ x. A.times x (A.weight (f.beats w b)))
      (ap₂ A.times (h a w (omega arith) (omega arith) m.1) (h (s - a) b (omega arith) (omega arith) (members_in f (s - a) b j).0))))
    where
      term : (ℕ → ℕ → M) → ℕ → ℕ → M
      term c a b = A.times (A.times (c a w) (c (s - a) b)) (A.weight (f.beats w b))

  figure_is : (s w : ℕ) → figure A f s w ≡ figure_in A f (rounds (ones s)) s w
  unfolding figure listed figure_in
  figure_is s w = refl

  -- the figure of 2 ^ k entrants is that of k rounds
  pub figure_at : (k s w : ℕ) → ones s ≡ 2 ^ k → figure A f s w ≡ figure_in A f k s w
  figure_at k s w o = figure_is s w ∙ ap (λ (x : ℕ). figure_in A f x s w) (ap rounds o ∙ rounds_pow k)

module _ {M : Type 0} (A : Semiring M) (L : LawfulSemiring A) where
  pub none_outside : NoneOutside A
  none_outside f s w h = figure_is A f s w ∙ figure_none A L f (rounds (ones s)) s w h

  pub none_off_powers : NoneOffPowers A
  none_off_powers f s w h = figure_is A f s w ∙ figure_off A L f (rounds (ones s)) s w (h (rounds (ones s)))

  -- where every cell has nothing, so has the sum by halves
  by_halves_nothing : (f : Field) (s w : ℕ) → by_halves A f (λ a e. A.nothing) s w ≡ A.nothing
  unfolding by_halves
  by_halves_nothing f s w =
      over_same A (halves f s w) _ _ (λ a.
      over_same A (members f (s - a)) _ _ (λ b. rw (L.times_nothing A.nothing) (L.times_nothing (A.weight (f.beats w b))))
      ∙ over_nothing A L (members f (s - a)))
      ∙ over_nothing A L (halves f s w)

  pub by_halves_lem : ByHalves A
  by_halves_lem f s w h not-one = elim (cases_eq (ones s) (2 ^ rounds (ones s))) [
    | inl o ↦ at (rounds (ones s)) o
    | inr off ↦
        figure_is A f s w ∙ figure_off A L f (rounds (ones s)) s w off
        ∙ sym (by_halves_same A f s w (figure A f) (λ a e. A.nothing) (λ a e l q m.
        none_off_powers f a e (λ k o. off (power_rounds (ones s) (suc k) (omega arith))))
        ∙ by_halves_nothing f s w)
  ]
    where
      at : (k : ℕ) → ones s ≡ 2 ^ k → figure A f s w ≡ by_halves A f (figure A f) s w
      at zero o = absurd (not-one o)
      at (suc k) o =
          figure_at A f (suc k) s w o
          ∙ recurrence_at A L f k s w h (positive s (suc k) o)
          ∙ by_halves_same A f s w (figure_in A f k) (figure A f) (λ a e l q m. sym (figure_at A f k a e (omega arith)))
