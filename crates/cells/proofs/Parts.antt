-- Parts of a set that hold an entrant, and parts of the others. Assumes nothing.
use Rattle.std.proofs.Common.{◌≡◌, ℕ, ◌+◌, ◌-◌, ◌^◌, true, sym, ap, ◌∙◌, arith}
use lib.Bits.{bit_and, and_comm}
use Rattle.std.proofs.lemmas.Nat.{and_assoc}
use Rattle.figures.specs.Sets.{has}
use Rattle.figures.proofs.Bits.{Part, part_le, part_sub, part_sum, part_apart, bit_sub, bit_true, true_bit, bit_pow}
use Rattle.figures.proofs.Members.{one_part}

-- a part of a part is a part
part_trans : (a b c : ℕ) → Part a b → Part b c → Part a c
part_trans a b c p q = ap (λ (x : ℕ). bit_and x c) (sym p) ∙ and_assoc c a b ∙ ap (bit_and a) q ∙ p

-- who shares nobody with c shares nobody with a part of c
apart_part : (a b c : ℕ) → Part b c → bit_and a c ≡ 0 → bit_and a b ≡ 0
apart_part a b c p q = ap (bit_and a) (sym p ∙ and_comm b c) ∙ sym (and_assoc b a c) ∙ ap (λ (x : ℕ). bit_and x b) q

-- a part of the others is a part of the set
pub others_part : (s e r : ℕ) → has s e ≡ true → Part r (s - 2 ^ e) → Part r s
others_part s e r h p = part_trans r (s - 2 ^ e) s p (part_sub (2 ^ e) s (one_part s e h))

-- what it leaves holds the entrant
pub others_leave : (s e r : ℕ) → has s e ≡ true → Part r (s - 2 ^ e) → has (s - r) e ≡ true
others_leave s e r h p =
    let a = bit_sub e (2 ^ e) s (one_part s e h) in
    let b = bit_sub e r (s - 2 ^ e) p in
    let c = bit_sub e r s (others_part s e r h p) in
    true_bit (s - r) e (omega (arith, a, b, c, bit_pow e, bit_true s e h))

-- what a part that holds the entrant leaves is a part of the others
pub leaves_others : (s e x : ℕ) → Part x s → has x e ≡ true → Part (s - x) (s - 2 ^ e)
leaves_others s e x p h =
    let q = one_part x e h in
    let k = apart_part (s - x) (x - 2 ^ e) x (part_sub (2 ^ e) x q) (and_comm (s - x) x ∙ part_apart x s p) in
    let l = part_le (2 ^ e) x q in
    let m = part_le x s p in
    let n : (s - x) + (x - 2 ^ e) ≡ s - 2 ^ e = omega arith in
    ap (bit_and (s - x)) (sym n) ∙ part_sum (s - x) (x - 2 ^ e) k
