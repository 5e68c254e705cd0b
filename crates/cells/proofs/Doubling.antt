-- From one level to the next. Assumes nothing.
use Rattle.std.proofs.Common.{◌≡◌, ℕ, suc, ◌+◌, ◌*◌, ◌^◌, ap, ◌∙◌, arith}

pub twice : (k : ℕ) → 2 ^ (k + 1) ≡ 2 * 2 ^ k
twice k =
    let e : k + 1 ≡ suc k = omega arith in
    let d : 2 ^ suc k ≡ 2 * 2 ^ k = omega arith in
    ap (λ (x : ℕ). 2 ^ x) e ∙ d
