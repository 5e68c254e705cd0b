-- Products of numbers that are cut at a top. Assumes nothing.
use Rattle.std.specs.Prelude.{◌≡◌, ℕ, zero, suc, ◌+◌, ◌*◌, ◌<◌, ◌≤◌, min, ◌⊎◌}
use Rattle.std.proofs.Common.{sym, ap, ◌∙◌, inl, inr, mul_assoc, arith}
use Rattle.std.proofs.lemmas.Bool.{cases_lt}

-- A factor may be cut before or after.
cut_factor : (top a b : ℕ) → min (min a top * b) top ≡ min (a * b) top
cut_factor top a zero = omega arith
cut_factor top a (suc b) = go (cases_lt a top)
  where
    go : (a < top) ⊎ (top ≤ a) → min (min a top * suc b) top ≡ min (a * suc b) top
    go (inl low) = let e : min a top ≡ a = omega arith in ap (λ (n : ℕ). min (n * suc b) top) e
    go (inr high) = omega arith

cut_right : (top a b : ℕ) → min (a * min b top) top ≡ min (a * b) top
cut_right top a b = omega (arith, cut_factor top b a)

pub cut_factors : (top a b : ℕ) → min (min a top * min b top) top ≡ min (a * b) top
cut_factors top a b = cut_factor top a (min b top) ∙ cut_right top a b

pub cut_regroups : (top a b c : ℕ) → min (min (a * b) top * c) top ≡ min (a * min (b * c) top) top
cut_regroups top a b c =
    cut_factor top (a * b) c ∙ ap (λ (n : ℕ). min n top) (mul_assoc a b c) ∙ sym (cut_right top a (b * c))

pub cut_spreads : (top a b c : ℕ) → min (a * min (b + c) top) top ≡ min (min (a * b) top + min (a * c) top) top
cut_spreads top a b c = omega (arith, cut_right top a (b + c))
