-- The figure of a single entrant. Assumes nothing.
use Rattle.std.proofs.Common.{◌≡◌, ℕ, ◌^◌, cond, eqb, [], map, sym, ap, ◌∙◌, inl, inr}
use lib.Count.{ones}
use Rattle.std.specs.List.{range_with_len}
use Rattle.std.proofs.lemmas.Bool.{cases_eq, eq-eqb, ne_eqb}
use Rattle.std.proofs.lemmas.Nat.Bits.{bit_at-pow_other}
use Rattle.algebra.specs.Semirings.{Semiring, LawfulSemiring}
use Rattle.figures.specs.Sums.{over}
use Rattle.figures.specs.Sets.{has, members}
use Rattle.figures.specs.Brackets.{Filled, sole, champion, listed_in}
use Rattle.figures.specs.Figures.{worth}
use Rattle.figures.specs.Theorems.{OfOne}
use Rattle.figures.proofs.Sums.{when, over_same, over_map, over_kept, pick_one}
use Rattle.figures.proofs.Recurrence.{figure_when}
use Rattle.figures.proofs.Halves.{figure_at}
use Rattle.figures.proofs.Bits.{bit, true_bit, false_bit, bit_pow, ones_pow}

has_pow : (e x : ℕ) → has (2 ^ e) x ≡ eqb e x
unfolding bit
has_pow e x = elim (cases_eq e x) [
  | inl q ↦ true_bit (2 ^ e) x (rw (← q) (bit_pow e)) ∙ sym (eq-eqb e x q)
  | inr q ↦ false_bit (2 ^ e) x (bit_at-pow_other e x (λ z. q (sym z))) ∙ sym (ne_eqb e x q)
]

-- alone, an entrant is the champion
pub of_one : {M : Type 0} (A : Semiring M) → LawfulSemiring A → OfOne A
unfolding listed_in members champion worth when
of_one {M} A L f e w h =
    let g : ℕ → M = λ x. when A (eqb x w) A.one in
    let G : Filled → M = λ t. when A (eqb (champion t) w) (worth A f t) in
    figure_at A f 0 (2 ^ e) w (ones_pow e)
    ∙ figure_when A L f 0 (2 ^ e) w
    ∙ ap (λ b. over A (cond b (map sole (members f (2 ^ e))) []) G) (eq-eqb (ones (2 ^ e)) 1 (ones_pow e))
    ∙ over_map A sole (members f (2 ^ e)) G
    ∙ over_kept A L (has (2 ^ e)) (range_with_len 0 f.size) g
    ∙ over_same A (range_with_len 0 f.size) (λ x. when A (has (2 ^ e) x) (g x)) (λ x. when A (eqb e x) (g x)) (λ x. ap (λ b. when A b (g x)) (has_pow e x))
    ∙ pick_one A L e f.size g h
