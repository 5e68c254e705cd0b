-- Bribes keep the laws of an algebra. Each is told by one number, at which none is the next after the top: a sum is then the
-- smaller number, and a product the sum of both, cut there. Assumes nothing.
use Rattle.std.specs.Prelude.{◌≡◌, ℕ, ◌+◌, ◌≤◌, min, true, false, Some, None, Option, refl}
use Rattle.std.proofs.Common.{sym, ap, ◌∙◌, inl, inr, arith}
use Rattle.std.proofs.Math.Bool.{Bool-set}
use mathlib.Core.HLevel.{is_prop→PathP}
use Rattle.std.proofs.lemmas.Bool.{cases_lt}
use Rattle.std.proofs.lemmas.Bool.Decides.{nat_tests}
use Rattle.algebra.specs.Semirings.{LawfulSemiring, Chooses}
use Rattle.algebra.specs.Bribing.{dear, Cost, payable, cheaper, together, same_price, bribing, held}

abbrev level : Option ℕ → ℕ
level None = 1000000000
level (Some price) = price

level_payable : (p : Option ℕ) → level (payable p) ≡ min (level p) 1000000000
level_payable p = grind (arith, nat_tests)

level_within : (p : Option ℕ) → dear p ≡ false → level p ≤ 1000000000
level_within p h = grind (arith, nat_tests)

level_cheaper : (p q : Option ℕ) → dear p ≡ false → dear q ≡ false → level (cheaper p q) ≡ min (level p) (level q)
level_cheaper p q h k = grind (arith, nat_tests)

level_together : (p q : Option ℕ) → min (level (together p q)) 1000000000 ≡ min (level p + level q) 1000000000
level_together p q = grind arith

-- A bribe is its price.
pub cost_of_price : (x y : Cost) → x.price ≡ y.price → x ≡ y
cost_of_price x y e = λ i. record {
  price = e i;
  within = is_prop→PathP (λ j. dear (e j) ≡ false) (λ j. Bool-set (dear (e j)) false) x.within y.within i;
}

same_price_lem : (p q : Option ℕ) → dear p ≡ false → dear q ≡ false → level p ≡ level q → p ≡ q
same_price_lem p q h k e = grind (arith, nat_tests)

-- A bribe is its number.
pub same_cost : (x y : Cost) → level x.price ≡ level y.price → x ≡ y
same_cost x y e = cost_of_price x y (same_price_lem x.price y.price x.within y.within e)

level_cost : (x : Cost) → level x.price ≤ 1000000000
level_cost x = level_within x.price x.within

level_times : (x y : Cost) → level (bribing.times x y).price ≡ min (level x.price + level y.price) 1000000000
level_times x y = level_payable (together x.price y.price) ∙ level_together x.price y.price

-- The cheaper of two bribes can be paid, so that nothing is cut.
pub plain_cheaper : (p q : Option ℕ) → dear p ≡ false → dear q ≡ false → payable (cheaper p q) ≡ cheaper p q
plain_cheaper p q h k = grind (arith, nat_tests)

level_plus : (x y : Cost) → level (bribing.plus x y).price ≡ min (level x.price) (level y.price)
level_plus x y =
    ap level (plain_cheaper x.price y.price x.within y.within) ∙ level_cheaper x.price y.price x.within y.within

level_held : (n : ℕ) → level (held n).price ≡ min n 1000000000
level_held n = level_payable (Some n)

-- Of prices told as numbers, the sum is the smaller.
pub held_plus : (a b r : ℕ) → r ≡ min a b → held r ≡ bribing.plus (held a) (held b)
held_plus a b r e =
    same_cost _ _ (omega (arith, level_held r, level_held a, level_held b, level_plus (held a) (held b)))

-- Their product is the sum of both, cut at the number that holds none.
pub held_times : (a b r : ℕ) → r ≡ min (a + b) 1000000000 → held r ≡ bribing.times (held a) (held b)
held_times a b r e =
    same_cost _ _ (omega (arith, level_held r, level_held a, level_held b, level_times (held a) (held b)))

-- Where a sum of two bribes is the first of them, that one is no larger.
pub plus_first : (a b : ℕ) → a ≤ 1000000000 → bribing.plus (held a) (held b) ≡ held a → a ≤ b
plus_first a b h e =
    omega (arith, level_held a, level_held b, level_plus (held a) (held b), ap (λ (x : Cost). level x.price) e)

price_same : (p q : Option ℕ) → same_price p q ≡ true → p ≡ q
price_same p q e = grind (arith, nat_tests)

price_itself : (p : Option ℕ) → same_price p p ≡ true
price_itself p = grind (arith, nat_tests)

pub costs_lawful : LawfulSemiring bribing
costs_lawful = record {
  plus_assoc = λ x y z.
      same_cost _ _ (omega (arith, level_plus x y, level_plus (bribing.plus x y) z, level_plus y z, level_plus x (bribing.plus y z)));
  plus_comm = λ x y. same_cost _ _ (omega (arith, level_plus x y, level_plus y x));
  plus_nothing = λ x. same_cost _ _ (omega (arith, level_plus bribing.nothing x, level_cost x));
  times_assoc = λ x y z.
      same_cost _ _ (omega (arith, level_times x y, level_times (bribing.times x y) z, level_times y z, level_times x (bribing.times y z)));
  times_comm = λ x y. same_cost _ _ (omega (arith, level_times x y, level_times y x));
  times_one = λ x. same_cost _ _ (omega (arith, level_times bribing.one x, level_cost x));
  times_plus = λ x y z.
      same_cost _ _
      (omega (arith, level_plus y z, level_times x (bribing.plus y z), level_times x y, level_times x z, level_plus (bribing.times x y) (bribing.times x z)));
  times_nothing = λ x. same_cost _ _ (omega (arith, level_times bribing.nothing x));
  same_exactly = λ x y. (
    (λ e. cost_of_price x y (price_same x.price y.price e)),
    (λ e. ap (λ (c : Cost). same_price x.price c.price) (sym e) ∙ price_itself x.price),
  );
  weight_never = refl;
}

-- A sum of two bribes is one of them.
pub costs_choose : Chooses bribing
costs_choose x y = elim (cases_lt (level y.price) (level x.price)) [
  | inl h ↦ inr (same_cost _ _ (omega (arith, level_plus x y)))
  | inr h ↦ inl (same_cost _ _ (omega (arith, level_plus x y)))
]
