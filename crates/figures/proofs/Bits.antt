-- Parts of a set: the bits of s - a, where a is a part of s. Assumes nothing.
use Rattle.std.proofs.Common.{◌≡◌, ℕ, zero, suc, ◌+◌, ◌-◌, ◌*◌, ◌/◌, ◌%◌, ◌^◌, ◌<◌, ◌≤◌, true, false, not, eqb, sym, refl, ap, ◌∙◌, subst, inl, inr, arith}
use lib.Bits.{bit_and, and_step, and_le_r, and_zero_l}
use lib.Count.{ones, ones_step}
use lib.Arith.{bin_ind}
use Rattle.std.proofs.lemmas.Nat.{zero_from_ones}
use Rattle.std.proofs.lemmas.Nat.Bits.{bit_at_lowest, bit_at-suc, bit_at-zero, bit_at-lt, bit_at-pow_same, bit_at_above}
use Rattle.std.proofs.lemmas.Bool.{eqb-true, eqb-false, eq-eqb, and_parts, and_from, cases_eq, cases_lt, cases_Bool}
use Rattle.figures.specs.Sets.{has, sub, half}

-- the digit of s at e
unfoldable pub bit : ℕ → ℕ → ℕ
bit s e = s / 2 ^ e % 2

pub bit_zero : (s : ℕ) → bit s 0 ≡ s % 2
unfolding bit
bit_zero s = bit_at_lowest s

pub bit_suc : (s e : ℕ) → bit s (suc e) ≡ bit (s / 2) e
unfolding bit
bit_suc s e = bit_at-suc s e

pub bit_lt : (s e : ℕ) → bit s e < 2
unfolding bit
bit_lt s e = bit_at-lt s e

-- a is a part of s
abbrev pub Part : ℕ → ℕ → Type 0
Part a s = bit_and a s ≡ a

-- of a part, the lowest digit and the rest
pub part_low : (a s : ℕ) → Part a s → a % 2 ≤ s % 2
part_low a s h = omega (arith, and_step a s, h)

pub part_rest : (a s : ℕ) → Part a s → Part (a / 2) (s / 2)
part_rest a s h = omega (arith, and_step a s, h)

pub part_le : (a s : ℕ) → Part a s → a ≤ s
part_le a s h = omega (arith, and_le_r a s, h)

half_sub : (a s : ℕ) → Part a s → (s - a) / 2 ≡ s / 2 - a / 2
half_sub a s h = omega (arith, part_low a s h, part_le a s h)

low_sub : (a s : ℕ) → Part a s → (s - a) % 2 + a % 2 ≡ s % 2
low_sub a s h = omega (arith, part_low a s h, part_le a s h)

-- the digits of s are those of a and those of s - a
pub bit_sub : (e a s : ℕ) → Part a s → bit (s - a) e + bit a e ≡ bit s e
bit_sub zero a s h = rw (bit_zero (s - a), bit_zero a, bit_zero s) (low_sub a s h)
bit_sub (suc e) a s h =
    rw (bit_suc (s - a) e, bit_suc a e, bit_suc s e, half_sub a s h) (bit_sub e (a / 2) (s / 2) (part_rest a s h))

-- the empty set has no part but itself
part_none : (P : ℕ → Type 0) → P 0 → (a : ℕ) → Part a 0 → P a
part_none P here a h = let q : 0 ≡ a = omega (arith, part_le a 0 h) in subst P q here

pub ones_sub : (a s : ℕ) → Part a s → ones (s - a) + ones a ≡ ones s
unfolding ones
ones_sub a s = bin_ind (λ s. (a : ℕ) → Part a s → ones (s - a) + ones a ≡ ones s) (part_none (λ a. ones (0 - a) + ones a ≡ ones 0) refl) step s a
  where
    step : (s : ℕ) → ((a : ℕ) → Part a (s / 2) → ones (s / 2 - a) + ones a ≡ ones (s / 2)) → (a : ℕ) → Part a s → ones (s - a) + ones a ≡ ones s
    step s ih a h =
        rw (ones_step (s - a), ones_step a, ones_step s, half_sub a s h) (omega (arith, low_sub a s h, ih (a / 2) (part_rest a s h)))

pub part_sub : (a s : ℕ) → Part a s → Part (s - a) s
part_sub a s = bin_ind (λ s. (a : ℕ) → Part a s → Part (s - a) s) (part_none (λ a. Part (0 - a) 0) refl) step s a
  where
    step : (s : ℕ) → ((a : ℕ) → Part a (s / 2) → Part (s / 2 - a) (s / 2)) → (a : ℕ) → Part a s → Part (s - a) s
    step s ih a h =
        and_step (s - a) s ∙ rw (half_sub a s h, ih (a / 2) (part_rest a s h)) (omega (arith, low_sub a s h, half_sub a s h))

-- ---- tests

-- a member, as its digit
pub has_bit : (s e : ℕ) → has s e ≡ eqb (bit s e) 1
unfolding has bit
has_bit s e = refl

pub sub_part : (a s : ℕ) → sub a s ≡ true → Part a s
unfolding sub
sub_part a s h = eqb-true (bit_and a s) a h

pub part_is_sub : (a s : ℕ) → Part a s → sub a s ≡ true
unfolding sub
part_is_sub a s h = eq-eqb (bit_and a s) a h

pub half_parts : (s a : ℕ) → half s a ≡ true → Part a s × (2 * ones a ≡ ones s)
unfolding half
half_parts s a h =
    let p = and_parts (sub a s) (eqb (2 * ones a) (ones s)) h in
    (sub_part a s p.0, eqb-true (2 * ones a) (ones s) p.1)

pub half_from : (s a : ℕ) → Part a s → 2 * ones a ≡ ones s → half s a ≡ true
unfolding half
half_from s a p e = and_from (sub a s) (eqb (2 * ones a) (ones s)) (part_is_sub a s p) (eq-eqb (2 * ones a) (ones s) e)

-- the rest of a half is a half
pub half_rest : (s a : ℕ) → half s a ≡ true → half s (s - a) ≡ true
half_rest s a h =
    let p = half_parts s a h in
    half_from s (s - a) (part_sub a s p.0) (omega (arith, ones_sub a s p.0, p.1))

pub bit_true : (s e : ℕ) → has s e ≡ true → bit s e ≡ 1
unfolding has bit
bit_true s e h = eqb-true (s / 2 ^ e % 2) 1 h

pub bit_false : (s e : ℕ) → has s e ≡ false → bit s e ≡ 0
bit_false s e h = omega (arith, bit_lt s e, eqb-false (bit s e) 1 (sym (has_bit s e) ∙ h))

pub true_bit : (s e : ℕ) → bit s e ≡ 1 → has s e ≡ true
true_bit s e h = has_bit s e ∙ eq-eqb (bit s e) 1 h

pub false_bit : (s e : ℕ) → bit s e ≡ 0 → has s e ≡ false
false_bit s e h = has_bit s e ∙ ap (λ (x : ℕ). eqb x 1) h

-- a member of s is in a part or in the rest, and not in both
pub has_rest : (s a e : ℕ) → Part a s → has s e ≡ true → has (s - a) e ≡ not (has a e)
has_rest s a e p h = elim (cases_Bool (has a e)) [
  | inl g ↦ rw g (false_bit (s - a) e (omega (arith, bit_sub e a s p, bit_true s e h, bit_true a e g)))
  | inr g ↦ rw g (true_bit (s - a) e (omega (arith, bit_sub e a s p, bit_true s e h, bit_false a e g)))
]

-- a member of a part is a member of the whole
pub has_part : (s a e : ℕ) → Part a s → has a e ≡ true → has s e ≡ true
has_part s a e p h = true_bit s e (omega (arith, bit_sub e a s p, bit_true a e h, bit_lt s e))

-- a set with anybody in it has a member
pub some_member : (n s : ℕ) → s < 2 ^ n → 0 < s → (e : ℕ) × (e < n) × (has s e ≡ true)
some_member zero s h p = absurd (omega arith)
some_member (suc n) s h p = elim (cases_eq (s % 2) 1) [
  | inl e ↦ (0, omega arith, true_bit s 0 (bit_zero s ∙ e))
  | inr e ↦ (let r = some_member n (s / 2) (omega arith) (omega arith) in (suc r.0, omega (arith, r.1), true_bit s (suc r.0) (bit_suc s r.0 ∙ bit_true (s / 2) r.0 r.2)))
]

-- ---- sets that share nobody

-- the rest of a part shares nobody with it
pub part_apart : (a s : ℕ) → Part a s → bit_and a (s - a) ≡ 0
part_apart a s = bin_ind (λ s. (a : ℕ) → Part a s → bit_and a (s - a) ≡ 0) (part_none (λ a. bit_and a (0 - a) ≡ 0) refl) step s a
  where
    step : (s : ℕ) → ((a : ℕ) → Part a (s / 2) → bit_and a (s / 2 - a) ≡ 0) → (a : ℕ) → Part a s → bit_and a (s - a) ≡ 0
    step s ih a h = and_step a (s - a) ∙ rw (half_sub a s h, ih (a / 2) (part_rest a s h)) (omega (arith, low_sub a s h))

-- of two sets that share nobody, the first is a part of the sum
pub part_sum : (a b : ℕ) → bit_and a b ≡ 0 → Part a (a + b)
part_sum a = bin_ind (λ a. (b : ℕ) → bit_and a b ≡ 0 → Part a (a + b)) (λ b h. and_zero_l (0 + b)) step a
  where
    step : (a : ℕ) → ((b : ℕ) → bit_and (a / 2) b ≡ 0 → Part (a / 2) (a / 2 + b)) → (b : ℕ) → bit_and a b ≡ 0 → Part a (a + b)
    step a ih b h =
        let st = and_step a b in
        let e : (a + b) / 2 ≡ a / 2 + b / 2 = omega arith in
        and_step a (a + b) ∙ rw (e, ih (b / 2) (omega arith)) (omega arith)

-- ---- how many

pub ones_some : (e s : ℕ) → bit s e ≡ 1 → 0 < ones s
ones_some zero s h = omega (arith, ones_step s, bit_zero s)
ones_some (suc e) s h = omega (arith, ones_step s, ones_some e (s / 2) (sym (bit_suc s e) ∙ h))

-- a set of one
pub ones_one : (e s : ℕ) → bit s e ≡ 1 → ones s ≡ 1 → s ≡ 2 ^ e
ones_one zero s h o =
    let z = zero_from_ones (s / 2) (omega (arith, ones_step s, bit_zero s)) in
    omega (arith, bit_zero s)
ones_one (suc e) s h o =
    let h' = sym (bit_suc s e) ∙ h in
    let st = ones_step s in
    let ih = ones_one e (s / 2) h' (omega (arith, ones_some e (s / 2) h')) in
    omega (arith, ones_some e (s / 2) h')

pub bit_pow : (e : ℕ) → bit (2 ^ e) e ≡ 1
unfolding bit
bit_pow e = bit_at-pow_same e

pub ones_pow : (e : ℕ) → ones (2 ^ e) ≡ 1
unfolding ones
ones_pow zero = refl
ones_pow (suc e) =
    let h : 2 ^ suc e / 2 ≡ 2 ^ e = omega arith in
    omega (arith, ones_step (2 ^ suc e), ap ones h, ones_pow e)

pub bit_none : (e : ℕ) → bit 0 e ≡ 0
unfolding bit
bit_none e = bit_at-zero e

-- a member is below n
pub member_lt : (n s e : ℕ) → s < 2 ^ n → bit s e ≡ 1 → e < n
unfolding bit
member_lt n s e h b = elim (cases_lt e n) [ inl l ↦ l | inr l ↦ absurd (omega (arith, bit_at_above s n e h l)) ]
