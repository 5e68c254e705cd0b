-- Numbers of a range that pass a test. Assumes nothing.
use Rattle.std.proofs.Common.{◌≡◌, ℕ, zero, suc, ◌+◌, ◌<◌, ◌≤◌, Bool, false, cond, ◌∷◌, length, filter, refl, ap, ◌∙◌, ap₂, arith}
use Rattle.std.specs.List.{range_with_len}
use Rattle.std.proofs.lemmas.List.FromFn.{length-range_with_len}
use Rattle.std.proofs.lemmas.List.Sums.{length-filter, count_by-le-length}

-- numbers that fail the test may be left out
pub kept_skip : (p : ℕ → Bool) (d c m : ℕ) → ((x : ℕ) → c ≤ x → x < c + d → p x ≡ false) → filter p (range_with_len c (d + m)) ≡ filter p (range_with_len (c + d) m)
kept_skip p zero c m h = ap₂ (λ (x y : ℕ). filter p (range_with_len x y)) (omega arith) (omega arith)
kept_skip p (suc d) c m h =
    let e : suc d + m ≡ suc (d + m) = omega arith in
    let f : c + 1 + d ≡ c + suc d = omega arith in
    rw (e, h c (omega arith) (omega arith), ← f) (kept_skip p d (c + 1) m (λ x l u. h x (omega arith) (omega arith)))

-- so may the last
pub kept_last : (p : ℕ → Bool) (c n : ℕ) → p (c + n) ≡ false → filter p (range_with_len c (suc n)) ≡ filter p (range_with_len c n)
kept_last p c zero h = let e : c ≡ c + 0 = omega arith in rw (ap p e ∙ h) refl
kept_last p c (suc n) h =
    let e : c + 1 + n ≡ c + suc n = omega arith in
    ap (λ l. cond (p c) (c ∷ l) l) (kept_last p (c + 1) n (ap p e ∙ h))

-- and all from some number on
pub kept_end : (p : ℕ → Bool) (c n d : ℕ) → ((x : ℕ) → c + n ≤ x → p x ≡ false) → filter p (range_with_len c (n + d)) ≡ filter p (range_with_len c n)
kept_end p c zero d h =
    let e : zero + d ≡ d + 0 = omega arith in
    rw e (kept_skip p d c 0 (λ x l u. h x (omega arith)))
kept_end p c (suc n) d h =
    let e : suc n + d ≡ suc (n + d) = omega arith in
    rw e (ap (λ l. cond (p c) (c ∷ l) l) (kept_end p (c + 1) n d (λ x l. h x (omega arith))))

-- tests that agree from there on keep the same
pub kept_same : (p q : ℕ → Bool) (c n : ℕ) → ((x : ℕ) → c ≤ x → p x ≡ q x) → filter p (range_with_len c n) ≡ filter q (range_with_len c n)
kept_same p q c zero h = refl
kept_same p q c (suc n) h =
    ap₂ (λ b xs. cond b (c ∷ xs) xs) (h c (omega arith)) (kept_same p q (c + 1) n (λ x l. h x (omega arith)))

pub kept_short : (p : ℕ → Bool) (c n : ℕ) → length (filter p (range_with_len c n)) ≤ n
kept_short p c n = omega (arith, length-filter p (range_with_len c n), count_by-le-length p (range_with_len c n), length-range_with_len c n)
