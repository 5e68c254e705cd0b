-- Two maps of meanings that keep the operations. Assumes nothing.
use Rattle.std.specs.Prelude.{◌≡◌, ℕ, zero, suc, ◌+◌, ◌*◌, min, ◌&&◌, ◌||◌, Option, nat_lt, refl}
use Rattle.std.proofs.Common.{◌∙◌, arith}
use Rattle.std.proofs.lemmas.Bool.Decides.{nat_tests}
use Rattle.facts.specs.Facts.{free}
use Rattle.algebra.specs.Semirings.{Keeps}
use Rattle.algebra.specs.Possibilities.{possibilities}
use Rattle.algebra.specs.Drawing.{drawing}
use Rattle.algebra.specs.Bribing.{payable, cheaper, together, bribing}
use Rattle.algebra.specs.Leading.{any_draw, unpaid}

draw_plus : (x y : ℕ) → nat_lt 0 (min (x + y) 999999999) ≡ (nat_lt 0 x || nat_lt 0 y)
draw_plus x y = grind (arith, nat_tests)

draw_times : (x y : ℕ) → nat_lt 0 (min (x * y) 999999999) ≡ (nat_lt 0 x && nat_lt 0 y)
draw_times zero y = grind (arith, nat_tests)
draw_times (suc x) zero = grind (arith, nat_tests)
draw_times (suc x) (suc y) = grind (arith, nat_tests)

draw_weight : (fact : Option ℕ) → any_draw (drawing.weight fact) ≡ free fact
draw_weight fact = grind (arith, nat_tests)

pub any_draw_keeps : Keeps drawing possibilities any_draw
any_draw_keeps = record {
  nothing = refl;
  one = refl;
  plus = λ x y. draw_plus x.number y.number;
  times = λ x y. draw_times x.number y.number;
  weight = draw_weight;
}

free_payable : (p : Option ℕ) → free (payable p) ≡ free p
free_payable p = grind (arith, nat_tests)

free_cheaper : (p q : Option ℕ) → free (cheaper p q) ≡ (free p || free q)
free_cheaper p q = grind (arith, nat_tests)

free_together : (p q : Option ℕ) → free (together p q) ≡ (free p && free q)
free_together p q = grind (arith, nat_tests)

pub unpaid_keeps : Keeps bribing possibilities unpaid
unpaid_keeps = record {
  nothing = refl;
  one = refl;
  plus = λ x y. free_payable (cheaper x.price y.price) ∙ free_cheaper x.price y.price;
  times = λ x y. free_payable (together x.price y.price) ∙ free_together x.price y.price;
  weight = free_payable;
}
