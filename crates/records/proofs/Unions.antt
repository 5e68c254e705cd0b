-- Sets that share nobody, and their sum. Assumes nothing.
use Rattle.std.proofs.Common.{◌≡◌, ℕ, zero, suc, ◌+◌, ◌-◌, ◌*◌, ◌/◌, ◌%◌, ◌^◌, ◌<◌, ◌≤◌, min, false, ◌⊎◌, sym, refl, ap, ◌∙◌, subst, inl, inr, le_refl, zero-mul, arith}
use lib.Bits.{bit_and, and_step, and_zero_r, and_comm, or_disjoint, or_lt}
use lib.Count.{ones, ones_step, ones-le}
use lib.Arith.{half_le}
use lib.Pow.{pow-lt}
use Rattle.std.proofs.lemmas.Bool.{cases_eq, cases_order}
use Rattle.figures.specs.Sets.{has, Member, Lowest, Apart}
use Rattle.figures.proofs.Bits.{bit, bit_lt, bit_sub, bit_true, bit_false, true_bit, false_bit, ones_one, ones_pow, bit_pow}
use Rattle.figures.proofs.Listed.{parted}
use Rattle.figures.proofs.Loops.{and_pow}

pub pow_same : (i j : ℕ) → 2 ^ i ≡ 2 ^ j → i ≡ j
pow_same i j h = go (cases_order i j)
  where
    go : (i ≡ j) ⊎ ((i < j) ⊎ (j < i)) → i ≡ j
    go (inl e) = e
    go (inr (inl l)) = absurd (omega (arith, pow-lt l))
    go (inr (inr l)) = absurd (omega (arith, pow-lt l))

pub apart_comm : (a b : ℕ) → Apart a b → Apart b a
apart_comm a b h = and_comm b a ∙ h

bit_sum : (a b e : ℕ) → Apart a b → bit (a + b) e ≡ bit a e + bit b e
bit_sum a b e h =
    let p = parted a b (a + b) refl h in
    omega (arith, bit_sub e a (a + b) p.0, ap (λ (x : ℕ). bit x e) p.1)

pub ones_sum : (a b : ℕ) → Apart a b → ones (a + b) ≡ ones a + ones b
ones_sum a b h = omega (arith, (parted a b (a + b) refl h).2)

pub sum_below : (n a b : ℕ) → Apart a b → a < 2 ^ n → b < 2 ^ n → a + b < 2 ^ n
sum_below n a b h p q = let l = or_lt n a b p q in omega (arith, or_disjoint a b h)

-- ---- who is in the sum

pub in_first : (a b e : ℕ) → Apart a b → Member a e → Member (a + b) e
in_first a b e h m = true_bit (a + b) e (omega (arith, bit_sum a b e h, bit_true a e m, bit_lt (a + b) e))

pub in_second : (a b e : ℕ) → Apart a b → Member b e → Member (a + b) e
in_second a b e h m = true_bit (a + b) e (omega (arith, bit_sum a b e h, bit_true b e m, bit_lt (a + b) e))

pub in_one : (a b e : ℕ) → Apart a b → Member (a + b) e → Member a e ⊎ Member b e
in_one a b e h m = go (cases_eq (bit a e) 1)
  where
    go : (bit a e ≡ 1) ⊎ (bit a e ≡ 1 → ⊥) → Member a e ⊎ Member b e
    go (inl p) = inl (true_bit a e p)
    go (inr p) = inr (true_bit b e (omega (arith, bit_sum a b e h, bit_true (a + b) e m, bit_lt a e)))

pub in_both : (a b e : ℕ) → Apart a b → Member a e → Member b e → ⊥
in_both a b e h p q = omega (arith, bit_sum a b e h, bit_true a e p, bit_true b e q, bit_lt (a + b) e)

-- ---- three sets

apart_rest : (a b : ℕ) → Apart a b → Apart (a / 2) (b / 2)
apart_rest a b h = omega (arith, and_step a b, h)

apart_low : (a b : ℕ) → Apart a b → min (a % 2) (b % 2) ≡ 0
apart_low a b h = omega (arith, and_step a b, h)

apart_from : (a b : ℕ) → Apart (a / 2) (b / 2) → min (a % 2) (b % 2) ≡ 0 → Apart a b
apart_from a b h m = omega (arith, and_step a b)

half_sum : (a b : ℕ) → Apart a b → (a + b) / 2 ≡ a / 2 + b / 2
half_sum a b h = omega (arith, apart_low a b h)

split_in : (d a c b : ℕ) → b ≤ d → Apart a c → Apart (a + c) b → Apart a b × Apart c b
split_in zero a c b l h k =
    let p : b ≡ 0 = omega arith in
    rw p (and_zero_r a, and_zero_r c)
split_in (suc d) a c b l h k =
    let P : ℕ → Type 0 = λ x. bit_and x (b / 2) ≡ 0 in
    let ih = split_in d (a / 2) (c / 2) (b / 2) (half_le l) (apart_rest a c h) (subst P (half_sum a c h) (apart_rest (a + c) b k)) in
    let m = apart_low a c h in
    let q = apart_low (a + c) b k in
    (apart_from a b ih.0 (omega arith), apart_from c b ih.1 (omega arith))

pub apart_split : (a c b : ℕ) → Apart a c → Apart (a + c) b → Apart a b × Apart c b
apart_split a c b h k = split_in b a c b (le_refl b) h k

join_in : (d a c b : ℕ) → b ≤ d → Apart a c → Apart a b → Apart c b → Apart (a + c) b
join_in zero a c b l h p q =
    let e : b ≡ 0 = omega arith in
    rw e (and_zero_r (a + c))
join_in (suc d) a c b l h p q =
    let P : ℕ → Type 0 = λ x. bit_and x (b / 2) ≡ 0 in
    let ih = join_in d (a / 2) (c / 2) (b / 2) (half_le l) (apart_rest a c h) (apart_rest a b p) (apart_rest c b q) in
    let m = apart_low a c h in
    let u = apart_low a b p in
    let v = apart_low c b q in
    apart_from (a + c) b (subst P (sym (half_sum a c h)) ih) (omega arith)

pub apart_join : (a c b : ℕ) → Apart a c → Apart a b → Apart c b → Apart (a + c) b
apart_join a c b h p q = join_in b a c b (le_refl b) h p q

-- ---- one entrant, and all

pub one_apart : (s e : ℕ) → has s e ≡ false → Apart s (2 ^ e)
one_apart s e h = and_pow s e ∙ ap (λ (x : ℕ). x * 2 ^ e) (bit_false s e h) ∙ zero-mul (2 ^ e)

pub apart_one : (s e : ℕ) → Apart s (2 ^ e) → has s e ≡ false
apart_one s e h = false_bit s e (omega (arith, bit_sum s (2 ^ e) e h, bit_pow e, bit_lt (s + 2 ^ e) e))

pub one_low : (e : ℕ) → Lowest (2 ^ e) e
one_low e = (
  true_bit (2 ^ e) e (bit_pow e),
  λ x m. let q = pow_same e x (ones_one x (2 ^ e) (bit_true (2 ^ e) x m) (ones_pow e)) in omega arith,
)

pub all_in : (n s : ℕ) → s < 2 ^ n → ones s ≡ n → s ≡ 2 ^ n - 1
all_in zero s h o = omega arith
all_in (suc n) s h o =
    let l : s / 2 < 2 ^ n = omega arith in
    let st = ones_step s in
    let m = ones-le n (s / 2) l in
    let ih = all_in n (s / 2) l (omega arith) in
    omega arith
