-- Members of a set by rising number, and the set without its lowest. Assumes nothing.
use Rattle.std.proofs.Common.{◌≡◌, ℕ, zero, suc, ◌+◌, ◌-◌, ◌*◌, ◌/◌, ◌%◌, ◌^◌, ◌<◌, ◌≤◌, true, false, cond, eqb, List, [], ◌∷◌, ◌++◌, filter, None, sym, refl, ap, ◌∙◌, inl, inr, w32, arith, pow_pos}
use lib.Bits.{bit_and, and_step, and_self, and_comm}
use lib.Count.{count_trailing_zeros}
use Rattle.std.specs.List.{range_with_len}
use Rattle.std.specs.Iterator.{YieldsFirst, Yields}
use Rattle.std.proofs.lemmas.List.{append-nil}
use Rattle.std.proofs.lemmas.Bool.{cases_eq, cases_lt, false_from_ne_true}
use Rattle.std.proofs.lemmas.Nat.Bits.{bit_at-trailing_zeros, bit_at-pow_other, bit_at_above}
use Rattle.figures.specs.Lists.{In, Distinct}
use Rattle.figures.specs.declared.sets.Members.{Members}
use Rattle.figures.specs.Fields.{Field}
use Rattle.figures.specs.Sets.{has, Lowest, members, all_members}
use Rattle.figures.proofs.Bits.{bit, bit_none, bit_zero, bit_suc, bit_sub, bit_pow, bit_true, true_bit, false_bit, has_bit, Part, part_le, member_lt}
use Rattle.figures.proofs.Lists.{in_right}
use Rattle.figures.proofs.Champions.{members_in, in_members}
use Rattle.figures.proofs.Listed.{members_once}
use Rattle.figures.proofs.Loops.{and_pow}
use Rattle.figures.proofs.Kept.{kept_skip, kept_same, kept_end}

-- a member alone is a part
pub one_part : (s e : ℕ) → has s e ≡ true → Part (2 ^ e) s
one_part s e h = and_comm (2 ^ e) s ∙ and_pow s e ∙ ap (λ (x : ℕ). x * 2 ^ e) (bit_true s e h) ∙ omega arith

-- nobody is a member of the empty set
pub has_none : (s x : ℕ) → s ≡ 0 → has s x ≡ false
has_none s x z = rw z (false_bit 0 x (bit_none x))

-- a set below 2 ^ n has no member from n on
pub beyond : (n s e : ℕ) → s < 2 ^ n → n ≤ e → has s e ≡ false
unfolding bit
beyond n s e h l = false_bit s e (bit_at_above s n e h l)

-- ---- the lowest member

lowest_is : (s : ℕ) → 0 < s → s < 2 ^ 32 → Lowest s (count_trailing_zeros 32 s) × (count_trailing_zeros 32 s < 32)
unfolding bit
lowest_is s p h =
    let z = bit_at-trailing_zeros w32 s p h in
    ((true_bit s (count_trailing_zeros 32 s) z.1, λ x m. elim (cases_lt x (count_trailing_zeros 32 s)) [ inl l ↦ absurd (omega (arith, z.2 x l, bit_true s x m)) | inr l ↦ l ]), z.0)

-- who has a member has a lowest one
pub lowest_in : (s w : ℕ) → s < 2 ^ 32 → has s w ≡ true → has s (count_trailing_zeros 32 s) ≡ true
lowest_in s w h m = (lowest_is s (omega (arith, part_le (2 ^ w) s (one_part s w m), pow_pos w)) h).0.0

-- ---- a set without its lowest member

off_in : (t s : ℕ) → bit s t ≡ 1 → ((x : ℕ) → bit s x ≡ 1 → t ≤ x) → bit_and s (s - 1) ≡ s - 2 ^ t
off_in zero s b h =
    let o : s % 2 ≡ 1 = sym (bit_zero s) ∙ b in
    let f : (s - 1) / 2 ≡ s / 2 = omega arith in
    let g : bit_and (s / 2) ((s - 1) / 2) ≡ s / 2 = ap (bit_and (s / 2)) f ∙ and_self (s / 2) in
    omega (arith, and_step s (s - 1))
off_in (suc t) s b h = elim (cases_eq (s % 2) 1) [
  | inl o ↦ absurd (omega (arith, h 0 (bit_zero s ∙ o)))
  | inr o ↦ (
      let k : bit (s / 2) t ≡ 1 = sym (bit_suc s t) ∙ b in
      let some = part_le (2 ^ t) (s / 2) (one_part (s / 2) t (true_bit (s / 2) t k)) in
      let f : (s - 1) / 2 ≡ s / 2 - 1 = omega arith in
      let g : bit_and (s / 2) ((s - 1) / 2) ≡ s / 2 - 2 ^ t = rw f (off_in t (s / 2) k (λ x i. omega (arith, h (suc x) (bit_suc s x ∙ i)))) in
      omega (arith, and_step s (s - 1)))
]

module _ (s t : ℕ) (low : Lowest s t) where
  bits_off : (x : ℕ) → bit (bit_and s (s - 1)) x + bit (2 ^ t) x ≡ bit s x
  bits_off x =
      ap (λ (y : ℕ). bit y x + bit (2 ^ t) x) (off_in t s (bit_true s t low.0) (λ y i. low.1 y (true_bit s y i)))
      ∙ bit_sub x (2 ^ t) s (one_part s t low.0)

  -- the lowest is no member any more
  off_itself : has (bit_and s (s - 1)) t ≡ false
  off_itself = false_bit (bit_and s (s - 1)) t (omega (arith, bits_off t, bit_pow t, bit_true s t low.0))

  -- everybody else is as before
  off_other : (x : ℕ) → (x ≡ t → ⊥) → has (bit_and s (s - 1)) x ≡ has s x
  unfolding bit
  off_other x q =
      let e : bit (bit_and s (s - 1)) x ≡ bit s x = omega (arith, bits_off x, bit_at-pow_other t x q) in
      has_bit (bit_and s (s - 1)) x ∙ ap (λ (d : ℕ). eqb d 1) e ∙ sym (has_bit s x)

  not_lower : (x : ℕ) → x < t → has s x ≡ false
  not_lower x l = false_from_ne_true (has s x) (λ k. omega (arith, low.1 x k))

  not_after : (x : ℕ) → x ≤ t → has (bit_and s (s - 1)) x ≡ false
  not_after x l = elim (cases_eq x t) [ inl e ↦ rw e off_itself | inr e ↦ off_other x e ∙ not_lower x (omega arith) ]

  -- of n entrants the lowest comes first, and then the members that are left
  first_off : (n : ℕ) → t < n → filter (has s) (range_with_len 0 n) ≡ t ∷ filter (has (bit_and s (s - 1))) (range_with_len 0 n)
  first_off n k =
      let q : ℕ = bit_and s (s - 1) in
      let m : ℕ = n - suc t in
      let e : n ≡ t + suc m = omega arith in
      let d : n ≡ suc t + m = omega arith in
      let c : 0 + t ≡ t = omega arith in
      let b : 0 + suc t ≡ t + 1 = omega arith in
      ap (λ (x : ℕ). filter (has s) (range_with_len 0 x)) e
      ∙ kept_skip (has s) t 0 (suc m) (λ x _ u. not_lower x (omega arith))
      ∙ ap (λ (x : ℕ). filter (has s) (range_with_len x (suc m))) c
      ∙ ap (λ y. cond y (t ∷ filter (has s) (range_with_len (t + 1) m)) (filter (has s) (range_with_len (t + 1) m))) low.0
      ∙ ap (λ xs. t ∷ xs)
      (kept_same (has s) (has q) (t + 1) m (λ x u. sym (off_other x (λ i. omega arith)))
      ∙ sym (ap (λ (x : ℕ). filter (has q) (range_with_len 0 x)) d
      ∙ kept_skip (has q) (suc t) 0 m (λ x _ u. not_after x (omega arith))
      ∙ ap (λ (x : ℕ). filter (has q) (range_with_len x m)) b))

-- ---- a walk through all members

pub first_of_all : (s : ℕ) → 0 < s → s < 2 ^ 32 → all_members s ≡ count_trailing_zeros 32 s ∷ all_members (bit_and s (s - 1))
unfolding all_members
first_of_all s p h = let low = lowest_is s p h in first_off s (count_trailing_zeros 32 s) low.0 32 low.1

pub all_none : (s : ℕ) → s ≡ 0 → all_members s ≡ []
unfolding all_members
all_none s z = kept_skip (has s) 32 0 0 (λ x _ _. has_none s x z)

-- a set of a field has no members outside it
pub all_within : (f : Field) (s : ℕ) → f.size ≤ 32 → s < 2 ^ f.size → all_members s ≡ members f s
unfolding all_members members
all_within f s few h =
    let e : 32 ≡ f.size + (32 - f.size) = omega arith in
    ap (λ (x : ℕ). filter (has s) (range_with_len 0 x)) e
    ∙ kept_end (has s) 0 f.size (32 - f.size) (λ x l. beyond f.size s x h (omega arith))

-- a field of as many as a number has digits
abbrev widest : Field
widest = record { size = 32; beats = λ a b. None }

pub all_in : (s e : ℕ) → In e (all_members s) → (has s e ≡ true) × (e < 32)
unfolding all_members members
all_in s e h = members_in widest s e h

pub in_all : (s e : ℕ) → has s e ≡ true → e < 32 → In e (all_members s)
unfolding all_members members
in_all s e h l = in_members widest s e h l

-- a member of a set of n entrants is one of them, and is listed
pub every_member : (n s e : ℕ) → n ≤ 32 → s < 2 ^ n → has s e ≡ true → (e < n) × In e (all_members s)
every_member n s e few h m = let l = member_lt n s e h (bit_true s e m) in (l, in_all s e m (omega arith))

all_once : (s : ℕ) → Distinct (all_members s)
unfolding all_members members
all_once s = members_once widest s

-- what a loop over the members of a set has given, and what is to come
module _ (set : ℕ) (items s t : Members) (xs : List ℕ) (of : items.left ≡ set) (is : s ≡ items) (y : Yields (YieldsFirst (λ (m : Members). all_members m.left)) s xs t) where
  so_far : all_members set ≡ xs ++ all_members t.left
  so_far = sym (ap (λ (m : Members). all_members m.left) is ∙ ap all_members of) ∙ go s xs y
    where
      go : (r : Members) (ys : List ℕ) → Yields (YieldsFirst (λ (m : Members). all_members m.left)) r ys t → all_members r.left ≡ ys ++ all_members t.left
      go r [] e = ap (λ (m : Members). all_members m.left) e
      go r (x ∷ ys) e = e.1 ∙ ap (λ zs. x ∷ zs) (go e.0 ys e.2)

  pub given_all : all_members t.left ≡ [] → xs ≡ all_members set
  given_all e = sym (so_far ∙ ap (λ ys. xs ++ ys) e ∙ append-nil xs)

  module _ (w : ℕ) (more : List ℕ) (e : all_members t.left ≡ w ∷ more) where
    listed : all_members set ≡ xs ++ w ∷ more
    listed = so_far ∙ ap (λ ys. xs ++ ys) e

    pub is_member : (has set w ≡ true) × (w < 32)
    is_member = all_in set w (rw listed (in_right w xs (w ∷ more) (inl refl)))

    pub is_entrant : (n : ℕ) → n ≤ 32 → set < 2 ^ n → w < n
    is_entrant n few h = (every_member n set w few h is_member.0).0

    -- nobody is given twice
    pub is_new : In w xs → ⊥
    is_new = apart xs (rw listed at (all_once set))
      where
        apart : (ys : List ℕ) → Distinct (ys ++ w ∷ more) → In w ys → ⊥
        apart [] d i = i
        apart (x ∷ ys) d (inl i) = d.0 (rw (← i) (in_right w ys (w ∷ more) (inl refl)))
        apart (x ∷ ys) d (inr i) = apart ys d.1 i
