-- What loops over sets want: one part less. Assumes nothing.
use Rattle.std.proofs.Common.{◌≡◌, ℕ, suc, ◌+◌, ◌-◌, ◌*◌, ◌/◌, ◌%◌, ◌^◌, ◌<◌, ◌≤◌, min, ◌⊎◌, ◌∙◌, inl, inr, arith}
use lib.Arith.{bin_ind}
use lib.Bits.{bit_and, and_step, and_le_l, and_zero_r}
use Rattle.std.proofs.lemmas.Nat.Bits as bits
use Rattle.std.proofs.lemmas.Bool.{cases_eq}
use Rattle.figures.proofs.Bits.{bit, Part, part_low, part_rest}

-- a power of two is twice the one before
pub pow_suc' : (e : ℕ) → 2 ^ suc e ≡ 2 * 2 ^ e
pow_suc' e = omega arith

-- s & (1 << e)
pub and_pow : (s e : ℕ) → bit_and s (2 ^ e) ≡ bit s e * 2 ^ e
unfolding bit
and_pow s e = bits.and_pow s e

-- ---- the walk down the parts of s: from a to (a - 1) & s

-- what m & s leaves of s is a part of s
pub masked : (m s : ℕ) → Part (bit_and m s) s
masked m s = bin_ind (λ s. (m : ℕ) → Part (bit_and m s) s) (λ m. cc (and_zero_r (bit_and m 0), and_zero_r m)) step s m
  where
    step : (s : ℕ) → ((m : ℕ) → Part (bit_and m (s / 2)) (s / 2)) → (m : ℕ) → Part (bit_and m s) s
    step s ih m =
        let st = and_step m s in
        let h : bit_and m s / 2 ≡ bit_and (m / 2) (s / 2) = omega arith in
        and_step (bit_and m s) s ∙ rw (h, ih (m / 2)) (omega arith)

-- no part of s stands between (a - 1) & s and a
pub next_part : (a b s : ℕ) → Part a s → Part b s → b < a → b ≤ bit_and (a - 1) s
next_part = bin_ind (λ a. (b s : ℕ) → Part a s → Part b s → b < a → b ≤ bit_and (a - 1) s) (λ b s p q h. omega arith) step
  where
    step : (a : ℕ) → ((b s : ℕ) → Part (a / 2) s → Part b s → b < a / 2 → b ≤ bit_and (a / 2 - 1) s) → (b s : ℕ) → Part a s → Part b s → b < a → b ≤ bit_and (a - 1) s
    step a ih b s p q h = go (cases_eq (a % 2) 1)
      where
        st : bit_and (a - 1) s ≡ bit_and ((a - 1) / 2) (s / 2) * 2 + min ((a - 1) % 2) (s % 2)
        st = and_step (a - 1) s

        go : (a % 2 ≡ 1) ⊎ (a % 2 ≡ 1 → ⊥) → b ≤ bit_and (a - 1) s
        go (inl e) =
            let f : (a - 1) / 2 ≡ a / 2 = omega arith in
            let g : bit_and ((a - 1) / 2) (s / 2) ≡ a / 2 = rw f (part_rest a s p) in
            omega (arith, st)
        go (inr e) =
            let f : (a - 1) / 2 ≡ a / 2 - 1 = omega arith in
            let g : b / 2 ≤ bit_and ((a - 1) / 2) (s / 2) = rw f (ih (b / 2) (s / 2) (part_rest a s p) (part_rest b s q) (omega arith)) in
            omega (arith, st, part_low b s q)

pub next_less : (a s : ℕ) → 0 < a → bit_and (a - 1) s < a
next_less a s h = omega (arith, and_le_l (a - 1) s)
