-- 2 ^ k entrants play k rounds. Assumes nothing.
use Rattle.std.proofs.Common.{◌≡◌, ℕ, zero, suc, ◌+◌, ◌-◌, ◌^◌, ◌<◌, ◌≤◌, min, Bool, true, false, ltb, length, filter, sym, ap, ◌∙◌, inl, inr, arith, pow_pos, pow_mono}
use lib.Pow.{pow-lt}
use Rattle.std.specs.List.{range_with_len}
use Rattle.std.proofs.lemmas.Bool.{lt-ltb, le-ltb, cases_lt}
use Rattle.figures.specs.Brackets.{rounds}

-- of the numbers from a on, those that pass a test that only those below k pass
count_below : (p : ℕ → Bool) (k : ℕ) → ((j : ℕ) → j < k → p j ≡ true) → ((j : ℕ) → k ≤ j → p j ≡ false)
    → (a n : ℕ) → length (filter p (range_with_len a n)) ≡ min (a + n) k - min a k
count_below p k is not a zero = omega arith
count_below p k is not a (suc n) =
    let ih = count_below p k is not (a + 1) n in
    elim (cases_lt a k) [ inl l ↦ rw (is a l) (omega arith) | inr l ↦ rw (not a l) (omega arith) ]

pub below_pow : (s : ℕ) → s < 2 ^ s
below_pow zero = omega arith
below_pow (suc s) = omega (arith, below_pow s, pow_pos s)

pub rounds_pow : (k : ℕ) → rounds (2 ^ k) ≡ k
unfolding rounds
rounds_pow k =
    count_below (λ j. ltb (2 ^ j) (2 ^ k)) k (λ j l. lt-ltb (2 ^ j) (2 ^ k) (pow-lt l)) (λ j l. le-ltb (2 ^ j) (2 ^ k) (pow_mono l)) 0 (2 ^ k) ∙ omega (arith, below_pow k)

-- a power of two is that of its rounds
pub power_rounds : (m k : ℕ) → m ≡ 2 ^ k → m ≡ 2 ^ rounds m
power_rounds m k h = let r = rounds_pow k in h ∙ ap (λ (x : ℕ). 2 ^ x) (sym r ∙ ap rounds (sym h))
