-- Steps of a walk through the halves of a set that hold an entrant. Assumes nothing.
use Rattle.std.proofs.Common.{◌≡◌, ℕ, suc, ◌+◌, ◌-◌, ◌*◌, ◌%◌, ◌^◌, ◌<◌, ◌≤◌, Bool, true, false, cond, List, [], ◌∷◌, length, get_or, drop, None, filter, sym, refl, ap, ◌∙◌, arith, length-drop}
use lib.Bits.{bit_and, and_self}
use lib.Count.{ones}
use Rattle.std.specs.List.{range_with_len}
use Rattle.std.proofs.lemmas.List.{drop-drop, get_or-drop}
use Rattle.std.proofs.lemmas.Bool.{and_parts, and_from}
use Rattle.figures.specs.Fields.{Field}
use Rattle.figures.specs.Sets.{has, half, halves}
use Rattle.figures.proofs.Bits.{Part, part_le, part_sub, half_parts, half_from, has_part, ones_sub, ones_some, bit_true, member_lt}
use Rattle.figures.proofs.Loops.{masked, next_part, next_less}
use Rattle.cells.specs.Standing.{holding, from, Trying, LeftFrom, Start}
use Rattle.cells.specs.Walks.{Due}
use Rattle.figures.proofs.Members.{one_part}
use Rattle.cells.proofs.Parts.{others_part, others_leave, leaves_others}
use Rattle.figures.proofs.Kept.{kept_skip, kept_last, kept_short}

-- ---- the test

-- what is no half that holds e
unless : (s e x : ℕ) → (Part x s → 2 * ones x ≡ ones s → has x e ≡ true → ⊥) → holding s e x ≡ false
unless s e x h = go (holding s e x) refl
  where
    go : (b : Bool) → holding s e x ≡ b → b ≡ false
    go false k = refl
    go true k =
        let p = and_parts (half s x) (has x e) k in
        let q = half_parts s x p.0 in
        absurd (h q.0 q.1 p.1)

pub fits : (s e o w r : ℕ) → Trying s e o w r → ones r ≡ w → holding s e (s - r) ≡ true
fits s e o w r q h =
    let p : Part r (s - 2 ^ e) = ap (bit_and r) (sym q.1) ∙ q.2 in
    let k = others_part s e r q.0 p in
    and_from (half s (s - r)) (has (s - r) e)
    (half_from s (s - r) (part_sub r s k) (omega (arith, ones_sub r s k, q.3)))
    (others_leave s e r q.0 p)

pub misses : (s e o w r : ℕ) → Trying s e o w r → (ones r ≡ w → ⊥) → holding s e (s - r) ≡ false
misses s e o w r q h =
    let p : Part r (s - 2 ^ e) = ap (bit_and r) (sym q.1) ∙ q.2 in
    let k = ones_sub r s (others_part s e r q.0 p) in
    let z = q.3 in
    unless s e (s - r) (λ _ t _. h (omega arith))

-- ---- one step

-- none is a half between what a part of the others leaves and what the next one leaves
between : (s e r x : ℕ) → has s e ≡ true → Part r (s - 2 ^ e) → s - r < x → x < s - bit_and (r - 1) (s - 2 ^ e) → holding s e x ≡ false
between s e r x h p u v =
    unless s e x (λ q _ i.
    let l = part_le x s q in
    let j = part_le r s (others_part s e r h p) in
    let k = next_part r (s - x) (s - 2 ^ e) p (leaves_others s e x q i) (omega arith) in
    omega arith)

step_at : (s e r : ℕ) → has s e ≡ true → Part r (s - 2 ^ e) → 0 < r
    → from s e r ≡ cond (holding s e (s - r)) ((s - r) ∷ from s e (bit_and (r - 1) (s - 2 ^ e))) (from s e (bit_and (r - 1) (s - 2 ^ e)))
unfolding from
step_at s e r h p l =
    let t : ℕ = bit_and (r - 1) (s - 2 ^ e) in
    let less : t < r = next_less r (s - 2 ^ e) l in
    let j : r ≤ s = part_le r s (others_part s e r h p) in
    let d : ℕ = r - t - 1 in
    let c : ℕ = s - r + 1 in
    let f : r ≡ suc (d + t) = omega arith in
    let g : c + d ≡ s - t = omega arith in
    ap (λ (x : ℕ). filter (holding s e) (range_with_len (s - r) x)) f
    ∙ ap (λ xs. cond (holding s e (s - r)) ((s - r) ∷ xs) xs)
    (kept_skip (holding s e) d c t (λ x u v. between s e r x h p (omega arith) (omega arith)) ∙ ap (λ (x : ℕ). filter (holding s e) (range_with_len x t)) g)

-- the rest r gives its half or none, and the walk goes on
step : (s e o w r : ℕ) → Trying s e o w r → 0 < r
    → from s e r ≡ cond (holding s e (s - r)) ((s - r) ∷ from s e (bit_and (r - 1) o)) (from s e (bit_and (r - 1) o))
step s e o w r q l =
    step_at s e r q.0 (ap (bit_and r) (sym q.1) ∙ q.2) l
    ∙ ap (λ (y : ℕ). cond (holding s e (s - r)) ((s - r) ∷ from s e (bit_and (r - 1) y)) (from s e (bit_and (r - 1) y))) (sym q.1)

step_given : (s e o w r : ℕ) → Trying s e o w r → 0 < r → ones r ≡ w → from s e r ≡ (s - r) ∷ from s e (bit_and (r - 1) o)
step_given s e o w r q l h =
    step s e o w r q l ∙ ap (λ b. cond b ((s - r) ∷ from s e (bit_and (r - 1) o)) (from s e (bit_and (r - 1) o))) (fits s e o w r q h)

pub step_missed : (s e o w r : ℕ) → Trying s e o w r → 0 < r → (ones r ≡ w → ⊥) → from s e r ≡ from s e (bit_and (r - 1) o)
step_missed s e o w r q l h =
    step s e o w r q l ∙ ap (λ b. cond b ((s - r) ∷ from s e (bit_and (r - 1) o)) (from s e (bit_and (r - 1) o))) (misses s e o w r q h)

-- the half that is due comes first
pub due_given : (s e o w z r : ℕ) → Due s e o w z r → 0 < r → from s e z ≡ (s - r) ∷ from s e (bit_and (r - 1) o)
due_given s e o w z r h l = h.0 ∙ step_given s e o w r (h.1 l).0 l (h.1 l).1

pub trying_next : (s e o w r : ℕ) → Trying s e o w r → Trying s e o w (bit_and (r - 1) o)
trying_next s e o w r q = (q.0, q.1, masked (r - 1) o, q.3)

pub rest_within : (s e o w r : ℕ) → Trying s e o w r → r ≤ s
rest_within s e o w r q = part_le r s (others_part s e r q.0 (ap (bit_and r) (sym q.1) ∙ q.2))

-- nothing is left from the empty rest on
pub from_end : (s e r : ℕ) → r ≡ 0 → from s e r ≡ []
unfolding from
from_end s e r z = ap (λ (x : ℕ). filter (holding s e) (range_with_len (s - r) x)) z

-- ---- the first step

-- from what the entrant alone leaves, all are left
pub all_from : (f : Field) (s e : ℕ) → has s e ≡ true → halves f s e ≡ from s e (s - 2 ^ e)
unfolding from halves
all_from f s e h =
    let o : ℕ = s - 2 ^ e in
    let l = part_le (2 ^ e) s (one_part s e h) in
    let g : suc s ≡ 2 ^ e + suc o = omega arith in
    let k : 0 + 2 ^ e ≡ s - o = omega arith in
    let m : s - o + o ≡ s = omega arith in
    let some = ones_some e s (bit_true s e h) in
    let low : (x : ℕ) → 0 ≤ x → x < 0 + 2 ^ e → holding s e x ≡ false =
    λ x _ u. unless s e x (λ _ _ i. let y = member_lt e x e (omega arith) (bit_true x e i) in omega arith) in
    ap (λ (x : ℕ). filter (holding s e) (range_with_len 0 x)) g
    ∙ kept_skip (holding s e) (2 ^ e) 0 (suc o) low
    ∙ ap (λ (x : ℕ). filter (holding s e) (range_with_len x (suc o))) k
    ∙ kept_last (holding s e) (s - o) o (ap (holding s e) m ∙ unless s e s (λ _ t _. omega arith))

-- an entrant outside the set has no halves, and a set of odd size has none
pub none_from : (f : Field) (s e : ℕ) → (has s e ≡ true → ones s % 2 ≡ 0 → ⊥) → halves f s e ≡ from s e 0
unfolding from halves
none_from f s e h =
    let g : suc s ≡ suc s + 0 = omega arith in
    ap (λ (x : ℕ). filter (holding s e) (range_with_len 0 x)) g
    ∙ kept_skip (holding s e) (suc s) 0 0 (λ x _ _. unless s e x (λ p t i. h (has_part s x e p i) (omega arith)))

pub start_at : (s e r : ℕ) → has s e ≡ true → ones s % 2 ≡ 0 → r ≡ s - 2 ^ e → Start s e r
start_at s e r h k z = ((λ _. (h, z, and_self r, omega arith)), λ f. all_from f s e h ∙ ap (from s e) (sym z))

pub start_none : (s e : ℕ) → (has s e ≡ true → ones s % 2 ≡ 0 → ⊥) → Start s e 0
start_none s e h = ((λ l. absurd (omega arith)), λ f. none_from f s e h)

-- ---- the place

pub ahead_next : (s e r p x : ℕ) (xs : List ℕ) → LeftFrom s e r p → from s e r ≡ x ∷ xs → (f : Field) → drop (p + 1) (halves f s e) ≡ xs
ahead_next s e r p x xs h g f = sym (drop-drop 1 p (halves f s e)) ∙ ap (drop 1) (h f ∙ g)

pub index_is : (s e r p x : ℕ) (xs : List ℕ) → LeftFrom s e r p → from s e r ≡ x ∷ xs → (f : Field) → get_or (halves f s e) p 0 ≡ x
index_is s e r p x xs h g f =
    let z : p ≡ p + 0 = omega arith in
    ap (λ (i : ℕ). get_or (halves f s e) i 0) z ∙ sym (get_or-drop p (halves f s e) 0 0) ∙ ap (λ ys. get_or ys 0 0) (h f ∙ g)

halves_short : (f : Field) (s e : ℕ) → length (halves f s e) ≤ suc s
unfolding halves
halves_short f s e = kept_short (holding s e) 0 (suc s)

pub place_within : (s e r p x : ℕ) (xs : List ℕ) → LeftFrom s e r p → from s e r ≡ x ∷ xs → p ≤ s
place_within s e r p x xs h g =
    let f : Field = record { size = 0; beats = λ _ _. None } in
    omega (arith, halves_short f s e, length-drop p (halves f s e), ap length (h f ∙ g))
