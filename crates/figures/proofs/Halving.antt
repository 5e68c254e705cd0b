-- How many halves a set has that hold a given entrant. Assumes nothing.
use Rattle.std.proofs.Common.{◌≡◌, ℕ, zero, suc, ◌+◌, ◌-◌, ◌*◌, ◌/◌, ◌%◌, ◌^◌, ◌<◌, ◌≤◌, Bool, true, false, cond, ◌&&◌, eqb, ◌⊎◌, length, sym, refl, ap, ◌∙◌, ap₂, map, inl, inr, add-one, zero-add, arith}
use lib.Bits.{bit_and, and_step}
use lib.Count.{ones, ones_step}
use Rattle.std.specs.List.{range_with_len, sum_by}
use Rattle.std.proofs.lemmas.List.{map-id}
use Rattle.std.proofs.lemmas.List.FromFn.{sum_by-map-range_with_len_more}
use Rattle.std.proofs.lemmas.List.Sums.{length-filter}
use Rattle.std.proofs.Math.Bool.{and-true}
use Rattle.std.proofs.lemmas.Bool.{eqb-true, eq-eqb, ne_eqb, and_left, and_right, and_parts, cases_eq, false_from_ne_true}
use lib.Dec.{eqb-suc-suc}
use Rattle.std.proofs.lemmas.Bool.Decides.{nat_tests}
use Rattle.figures.specs.Fields.{Field}
use Rattle.figures.specs.Sets.{has, sub, half, halves}
use Rattle.figures.specs.Counts.{choose}
use Rattle.figures.proofs.Bits.{bit, bit_zero, bit_suc, bit_true, part_le, sub_part, has_bit, ones_some, member_lt}

-- how many below m pass a test
tally : (ℕ → Bool) → ℕ → ℕ
tally f zero = 0
tally f (suc m) = tally f m + cond (f m) 1 0

tally_same : (f g : ℕ → Bool) (m : ℕ) → ((a : ℕ) → f a ≡ g a) → tally f m ≡ tally g m
unfolding tally
tally_same f g zero h = refl
tally_same f g (suc m) h = ap₂ (λ (x : ℕ) (b : Bool). x + cond b 1 0) (tally_same f g m h) (h m)

tally_none : (f : ℕ → Bool) (m : ℕ) → ((a : ℕ) → f a ≡ false) → tally f m ≡ 0
unfolding tally
tally_none f zero h = refl
tally_none f (suc m) h = ap₂ (λ (x : ℕ) (b : Bool). x + cond b 1 0) (tally_none f m h) (h m)

-- even and odd ones apart
tally_double : (f : ℕ → Bool) (m : ℕ) → tally f (2 * m) ≡ tally (λ c. f (2 * c)) m + tally (λ c. f (2 * c + 1)) m
unfolding tally
tally_double f zero = refl
tally_double f (suc m) =
    let e : 2 * suc m ≡ suc (suc (2 * m)) = omega arith in
    let o : suc (2 * m) ≡ 2 * m + 1 = omega arith in
    let ih = tally_double f m in
    ap (tally f) e ∙ ap (λ (i : ℕ). tally f (2 * m) + cond (f (2 * m)) 1 0 + cond (f i) 1 0) o ∙ omega (arith, ih)

-- nothing above a bound passes
tally_more : (f : ℕ → Bool) (m d : ℕ) → ((a : ℕ) → m ≤ a → f a ≡ false) → tally f (m + d) ≡ tally f m
unfolding tally
tally_more f m zero h = let e : m + 0 ≡ m = omega arith in ap (tally f) e
tally_more f m (suc d) h =
    let e : m + suc d ≡ suc (m + d) = omega arith in
    ap (tally f) e ∙ ap₂ (λ (x : ℕ) (b : Bool). x + cond b 1 0) (tally_more f m d h) (h (m + d) (omega arith)) ∙ omega arith

kept_tally : (f : ℕ → Bool) (m : ℕ) → sum_by (λ a. cond (f a) 1 0) (map (λ a. a) (range_with_len 0 m)) ≡ tally f m
unfolding tally
kept_tally f zero = refl
kept_tally f (suc m) =
    ap (λ (n : ℕ). sum_by (λ a. cond (f a) 1 0) (map (λ a. a) (range_with_len 0 n))) (sym (add-one m))
    ∙ sum_by-map-range_with_len_more (λ a. cond (f a) 1 0) (λ a. a) 0 m m (zero-add m)
    ∙ ap (λ (n : ℕ). n + cond (f m) 1 0) (kept_tally f m)

-- a part of s with j members
fits : ℕ → ℕ → ℕ → Bool
fits s j a = sub a s && eqb (ones a) j

sub_even : (s c : ℕ) → sub (2 * c) s ≡ sub c (s / 2)
unfolding sub
sub_even s c =
    let e : 2 * c / 2 ≡ c = omega arith in
    let step = rw e at (and_step (2 * c) s) in
    grind (arith, nat_tests, step)

sub_odd : (s c : ℕ) → s % 2 ≡ 1 → sub (2 * c + 1) s ≡ sub c (s / 2)
unfolding sub
sub_odd s c o =
    let e : (2 * c + 1) / 2 ≡ c = omega arith in
    let step = rw e at (and_step (2 * c + 1) s) in
    grind (arith, nat_tests, step)

sub_not : (s c : ℕ) → s % 2 ≡ 0 → sub (2 * c + 1) s ≡ false
unfolding sub
sub_not s c o =
    let e : (2 * c + 1) / 2 ≡ c = omega arith in
    let step = and_step (2 * c + 1) s in
    ne_eqb (bit_and (2 * c + 1) s) (2 * c + 1) (λ h. omega (arith, step, h))

ones_even : (c : ℕ) → ones (2 * c) ≡ ones c
ones_even c = let e : 2 * c / 2 ≡ c = omega arith in omega (arith, ones_step (2 * c), ap ones e)

ones_odd : (c : ℕ) → ones (2 * c + 1) ≡ suc (ones c)
ones_odd c = let e : (2 * c + 1) / 2 ≡ c = omega arith in omega (arith, ones_step (2 * c + 1), ap ones e)

-- the parts of s with j members, even and odd ones apart
fits_even : (s j c : ℕ) → fits s j (2 * c) ≡ fits (s / 2) j c
unfolding fits
fits_even s j c = rw (sub_even s c, ones_even c) refl

fits_odd : (s j c : ℕ) → s % 2 ≡ 1 → fits s (suc j) (2 * c + 1) ≡ fits (s / 2) j c
unfolding fits
fits_odd s j c o = rw (sub_odd s c o, ones_odd c, eqb-suc-suc (ones c) j) refl

fits_odd_none : (s c : ℕ) → fits s 0 (2 * c + 1) ≡ false
unfolding fits
fits_odd_none s c = and_right (sub (2 * c + 1) s) (eqb (ones (2 * c + 1)) 0) (ne_eqb (ones (2 * c + 1)) 0 (λ h. omega (arith, ones_odd c)))

fits_not : (s j c : ℕ) → s % 2 ≡ 0 → fits s j (2 * c + 1) ≡ false
unfolding fits
fits_not s j c o = and_left (sub (2 * c + 1) s) (eqb (ones (2 * c + 1)) j) (sub_not s c o)

odd_or_even : (s : ℕ) → (s % 2 ≡ 1) ⊎ (s % 2 ≡ 0)
odd_or_even s = elim (cases_eq (s % 2) 1) [ inl e ↦ inl e | inr e ↦ inr (omega arith) ]

choose_none : (m : ℕ) → choose m 0 ≡ 1
unfolding choose
choose_none zero = refl
choose_none (suc m) = refl

choose_suc : (m j : ℕ) → choose (suc m) (suc j) ≡ choose m j + choose m (suc j)
unfolding choose
choose_suc m j = refl

no_parts : (j : ℕ) → tally (fits 0 j) 1 ≡ choose (ones 0) j
unfolding tally fits sub ones choose
no_parts zero = refl
no_parts (suc j) = ap (λ (b : Bool). 0 + cond b 1 0) (ne_eqb 0 (suc j) (λ e. omega arith))

-- s has as many parts of j members as there are ways to choose j of its members
parts_count : (n s j : ℕ) → s < 2 ^ n → tally (fits s j) (2 ^ n) ≡ choose (ones s) j
parts_count zero s j h = let z : s ≡ 0 = omega arith in rw z (no_parts j)
parts_count (suc n) s j h =
    let e : 2 ^ suc n ≡ 2 * 2 ^ n = omega arith in
    let evens : (j : ℕ) → tally (λ c. fits s j (2 * c)) (2 ^ n) ≡ choose (ones (s / 2)) j =
    λ j. tally_same (λ c. fits s j (2 * c)) (fits (s / 2) j) (2 ^ n) (fits_even s j) ∙ parts_count n (s / 2) j (omega arith) in
    ap (tally (fits s j)) e ∙ tally_double (fits s j) (2 ^ n) ∙ ap (λ (x : ℕ). x + tally (λ c. fits s j (2 * c + 1)) (2 ^ n)) (evens j) ∙ odds j (odd_or_even s) (λ j. parts_count n (s / 2) j (omega arith))
  where
    odds : (j : ℕ) → (s % 2 ≡ 1) ⊎ (s % 2 ≡ 0) → ((j : ℕ) → tally (fits (s / 2) j) (2 ^ n) ≡ choose (ones (s / 2)) j)
        → choose (ones (s / 2)) j + tally (λ c. fits s j (2 * c + 1)) (2 ^ n) ≡ choose (ones s) j
    odds j (inr o) ih =
        let k : ones s ≡ ones (s / 2) = omega (arith, ones_step s) in
        let z = tally_none (λ c. fits s j (2 * c + 1)) (2 ^ n) (λ c. fits_not s j c o) in
        let q = ap (λ (x : ℕ). choose x j) k in
        omega (arith, z, q)
    odds zero (inl o) ih =
        let z = tally_none (λ c. fits s 0 (2 * c + 1)) (2 ^ n) (fits_odd_none s) in
        omega (arith, z, choose_none (ones (s / 2)), choose_none (ones s))
    odds (suc j) (inl o) ih =
        let k : ones s ≡ suc (ones (s / 2)) = omega (arith, ones_step s) in
        let z = tally_same (λ c. fits s (suc j) (2 * c + 1)) (fits (s / 2) j) (2 ^ n) (λ c. fits_odd s j c o) ∙ ih j in
        let q = ap (λ (x : ℕ). choose x (suc j)) k ∙ choose_suc (ones (s / 2)) j in
        omega (arith, z, q)

-- a part of s with j members that holds e
holds : ℕ → ℕ → ℕ → ℕ → Bool
holds s e j a = fits s j a && has a e

has_even_zero : (c : ℕ) → has (2 * c) 0 ≡ false
has_even_zero c = has_bit (2 * c) 0 ∙ ne_eqb (bit (2 * c) 0) 1 (λ h. omega (arith, bit_zero (2 * c)))

has_odd_zero : (c : ℕ) → has (2 * c + 1) 0 ≡ true
has_odd_zero c = has_bit (2 * c + 1) 0 ∙ eq-eqb (bit (2 * c + 1) 0) 1 (omega (arith, bit_zero (2 * c + 1)))

has_half : (s e : ℕ) → has s (suc e) ≡ has (s / 2) e
has_half s e = rw (has_bit s (suc e), bit_suc s e, has_bit (s / 2) e) refl

has_even : (c e : ℕ) → has (2 * c) (suc e) ≡ has c e
has_even c e = let h : 2 * c / 2 ≡ c = omega arith in rw (has_half (2 * c) e, h) refl

has_odd : (c e : ℕ) → has (2 * c + 1) (suc e) ≡ has c e
has_odd c e = let h : (2 * c + 1) / 2 ≡ c = omega arith in rw (has_half (2 * c + 1) e, h) refl

has_one : (s : ℕ) → has s 0 ≡ true → s % 2 ≡ 1
has_one s h = omega (arith, bit_zero s, bit_true s 0 h)

-- nobody is held by a part of no members
holds_none : (n s e : ℕ) → tally (holds s e 0) (2 ^ n) ≡ 0
unfolding holds fits
holds_none n s e = tally_none (holds s e 0) (2 ^ n) (λ a. false_from_ne_true (holds s e 0 a) (λ k.
    let p = and_parts (fits s 0 a) (has a e) k in
    omega (arith, eqb-true (ones a) 0 (and_parts (sub a s) (eqb (ones a) 0) p.0).1, ones_some e a (bit_true a e p.1))))

-- s has as many parts of j + 1 members that hold e as there are ways to choose the j others
holds_count : (e n s j : ℕ) → s < 2 ^ n → has s e ≡ true → tally (holds s e (suc j)) (2 ^ n) ≡ choose (ones s - 1) j
unfolding holds
holds_count e zero s j h m = absurd (omega (arith, member_lt 0 s e h (bit_true s e m)))
holds_count zero (suc n) s j h m =
    let e : 2 ^ suc n ≡ 2 * 2 ^ n = omega arith in
    let o = has_one s m in
    let k : ones s - 1 ≡ ones (s / 2) = omega (arith, ones_step s) in
    ap (tally (holds s 0 (suc j))) e ∙ tally_double (holds s 0 (suc j)) (2 ^ n)
    ∙ ap₂ (λ (x y : ℕ). x + y)
    (tally_none (λ c. holds s 0 (suc j) (2 * c)) (2 ^ n) (evens j))
    (tally_same (λ c. holds s 0 (suc j) (2 * c + 1)) (fits (s / 2) j) (2 ^ n) (odds j o) ∙ parts_count n (s / 2) j (omega arith) ∙ ap (λ (x : ℕ). choose x j) (sym k))
    ∙ omega arith
  where
    evens : (j c : ℕ) → holds s 0 (suc j) (2 * c) ≡ false
    evens j c = and_right (fits s (suc j) (2 * c)) (has (2 * c) 0) (has_even_zero c)

    odds : (j : ℕ) → s % 2 ≡ 1 → (c : ℕ) → holds s 0 (suc j) (2 * c + 1) ≡ fits (s / 2) j c
    odds j o c = ap₂ (λ (x y : Bool). x && y) (fits_odd s j c o) (has_odd_zero c) ∙ and-true (fits (s / 2) j c)
holds_count (suc e) (suc n) s j h m =
    let p : 2 ^ suc n ≡ 2 * 2 ^ n = omega arith in
    let below : s / 2 < 2 ^ n = omega arith in
    let m' = sym (has_half s e) ∙ m in
    ap (tally (holds s (suc e) (suc j))) p ∙ tally_double (holds s (suc e) (suc j)) (2 ^ n)
    ∙ ap (λ (x : ℕ). x + tally (λ c. holds s (suc e) (suc j) (2 * c + 1)) (2 ^ n))
    (tally_same (λ c. holds s (suc e) (suc j) (2 * c)) (holds (s / 2) e (suc j)) (2 ^ n) (evens (suc j)) ∙ holds_count e n (s / 2) j below m')
    ∙ odds j (odd_or_even s) (λ i. holds_count e n (s / 2) i below m') (ones_some e (s / 2) (bit_true (s / 2) e m'))
  where
    evens : (j c : ℕ) → holds s (suc e) j (2 * c) ≡ holds (s / 2) e j c
    evens j c = ap₂ (λ (x y : Bool). x && y) (fits_even s j c) (has_even c e)

    odds : (j : ℕ) → (s % 2 ≡ 1) ⊎ (s % 2 ≡ 0) → ((i : ℕ) → tally (holds (s / 2) e (suc i)) (2 ^ n) ≡ choose (ones (s / 2) - 1) i) → 0 < ones (s / 2)
        → choose (ones (s / 2) - 1) j + tally (λ c. holds s (suc e) (suc j) (2 * c + 1)) (2 ^ n) ≡ choose (ones s - 1) j
    odds j (inr o) ih some =
        let z = tally_none (λ c. holds s (suc e) (suc j) (2 * c + 1)) (2 ^ n) (λ c. and_left (fits s (suc j) (2 * c + 1)) (has (2 * c + 1) (suc e)) (fits_not s (suc j) c o)) in
        let k : ones s ≡ ones (s / 2) = omega (arith, ones_step s) in
        let q = ap (λ (x : ℕ). choose (x - 1) j) k in
        omega (arith, z, q)
    odds zero (inl o) ih some =
        let z = tally_same (λ c. holds s (suc e) 1 (2 * c + 1)) (holds (s / 2) e 0) (2 ^ n) (λ c. ap₂ (λ (x y : Bool). x && y) (fits_odd s 0 c o) (has_odd c e)) ∙ holds_none n (s / 2) e in
        omega (arith, z, choose_none (ones (s / 2) - 1), choose_none (ones s - 1))
    odds (suc i) (inl o) ih some =
        let z = tally_same (λ c. holds s (suc e) (suc (suc i)) (2 * c + 1)) (holds (s / 2) e (suc i)) (2 ^ n) (λ c. ap₂ (λ (x y : Bool). x && y) (fits_odd s (suc i) c o) (has_odd c e)) ∙ ih i in
        let k : ones s - 1 ≡ suc (ones (s / 2) - 1) = omega (arith, ones_step s) in
        let q = ap (λ (x : ℕ). choose x (suc i)) k ∙ choose_suc (ones (s / 2) - 1) i in
        omega (arith, z, q)

-- how many halves of s hold e
pub halves_count : (f : Field) (n s e m : ℕ) → s < 2 ^ n → has s e ≡ true → ones s ≡ 2 * suc m → length (halves f s e) ≡ choose (2 * suc m - 1) m
unfolding halves half holds fits
halves_count f n s e m h i size =
    let d : suc s + (2 ^ n - suc s) ≡ 2 ^ n = omega arith in
    length-filter (λ a. half s a && has a e) (range_with_len 0 (suc s)) ∙ ap (sum_by (λ a. cond (half s a && has a e) 1 0)) (sym (map-id (range_with_len 0 (suc s))))
    ∙ kept_tally (λ a. half s a && has a e) (suc s)
    ∙ sym (tally_more (λ a. half s a && has a e) (suc s) (2 ^ n - suc s) above) ∙ ap (tally (λ a. half s a && has a e)) d
    ∙ tally_same (λ a. half s a && has a e) (holds s e (suc m)) (2 ^ n) (λ a. ap (λ (b : Bool). (sub a s && b) && has a e) (as_many (ones a) (ones s) size))
    ∙ holds_count e n s m h i ∙ ap (λ (x : ℕ). choose (x - 1) m) size
  where
    as_many : (x y : ℕ) → y ≡ 2 * suc m → eqb (2 * x) y ≡ eqb x (suc m)
    as_many x y k = grind (arith, nat_tests)

    above : (a : ℕ) → suc s ≤ a → half s a && has a e ≡ false
    above a l = false_from_ne_true (half s a && has a e) (λ k. omega (arith, part_le a s (sub_part a s (and_parts (sub a s) (eqb (2 * ones a) (ones s)) (and_parts (half s a) (has a e) k).0).0)))
