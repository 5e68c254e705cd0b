-- The list of the filled brackets on a set holds each of them, only those, and each once. Assumes nothing.
use Rattle.std.proofs.Common.{◌≡◌, ℕ, zero, suc, ◌+◌, ◌-◌, ◌^◌, ◌<◌, ◌≤◌, Bool, true, false, cond, ◌&&◌, eqb, List, [], ◌∷◌, ◌++◌, map, get_or, filter, sym, refl, ap, ◌∙◌, ap₂, inl, inr, arith, pow_pos}
use lib.Bits.{bit_and}
use lib.Count.{ones}
use Rattle.std.specs.List.{range_with_len}
use Rattle.std.proofs.lemmas.Bool.{eqb-true, eq-eqb, cases_Bool}
use Rattle.std.proofs.lemmas.Nat.{ones_le_self}
use Rattle.figures.specs.Lists.{In, Distinct, EachOnce, gather}
use Rattle.figures.specs.Fields.{Field}
use Rattle.figures.specs.Sets.{has, Lowest, half, members, lowest, halves}
use Rattle.figures.specs.Brackets.{Side, first, second, Filled, sole, match, On, champion, rounds, listed_in, listed}
use Rattle.figures.specs.Theorems.{ListedEachOnce, OnPowersOnly}
use Rattle.figures.proofs.Lists.{in_either, in_kept, kept_in, counting_in, in_map, map_in, in_gather, gather_in}
use Rattle.figures.proofs.Champions.{two, two_in, made, single, listed_size, members_in, in_members, halves_in, in_halves, lowest_in_lem}
use Rattle.figures.proofs.Rounds.{power_rounds}
use Rattle.figures.proofs.Bits.{bit, Part, half_parts, half_from, part_le, part_apart, part_sum, ones_sub, ones_one, ones_pow, bit_pow, bit_true, true_bit, member_lt}

-- ---- the lowest member

first_least : (p : ℕ → Bool) (x a n : ℕ) → In x (filter p (range_with_len a n)) → get_or (filter p (range_with_len a n)) 0 0 ≤ x
first_least p x a zero h = absurd h
first_least p x a (suc n) h = elim (cases_Bool (p a)) [
  | inl g ↦ rw g (omega (arith, counting_in x a (suc n) (kept_in p x (range_with_len a (suc n)) h).0))
  | inr g ↦ rw g (first_least p x (a + 1) n (rw g at h))
]

pub lowest_is : (f : Field) (s : ℕ) → s < 2 ^ f.size → 0 < s → Lowest s (lowest f s)
unfolding lowest members
lowest_is f s h p = ((lowest_in_lem f s h p).0, λ x m. first_least (has s) x 0 f.size (in_members f s x m (member_lt f.size s x h (bit_true s x m))))

pub lowest_same : (s d e : ℕ) → Lowest s d → Lowest s e → d ≡ e
lowest_same s d e p q = omega (arith, p.1 e q.0, q.1 d p.0)

pub positive : (s k : ℕ) → ones s ≡ 2 ^ k → 0 < s
positive s k h = omega (arith, ones_le_self s, pow_pos k)

-- ---- sound

pub sound : (f : Field) (k s : ℕ) → s < 2 ^ f.size → (t : Filled) → In t (listed_in f k s) → On s t
sound f zero s h t i =
    let p = single f s t i in
    rw p.3 (ones_one p.1 s (bit_true s p.1 (members_in f s p.1 p.2).0) p.0)
sound f (suc k) s h t i =
    let o = listed_size f (suc k) s t i in
    let m = made f k s t i in
    let a = m.one_half in
    let c = halves_in f s (lowest f s) a m.chosen in
    let p = half_parts s a c.0 in
    let l = part_le a s p.0 in
    let q = ones_sub a s p.0 in
    let r = p.1 in
    rw m.is (record {
      halved = record {
        a = a;
        b = s - a;
        sum = omega arith;
        apart = part_apart a s p.0;
        equal = omega arith;
        on_first = sound f k a (omega arith) m.left m.left_in;
        on_second = sound f k (s - a) (omega arith) m.right m.right_in;
      };
      lowest_first = λ e z. rw (← lowest_same s (lowest f s) e (lowest_is f s h (positive s (suc k) o)) z) c.1;
    })

-- ---- complete

-- what two halves of s are to s
pub parted : (a b s : ℕ) → a + b ≡ s → bit_and a b ≡ 0 → Part a s × (s - a ≡ b) × (ones b + ones a ≡ ones s)
parted a b s e h =
    let p : Part a s = rw (← e) (part_sum a b h) in
    let d : s - a ≡ b = omega arith in
    (p, d, ap (λ (x : ℕ). ones x + ones a) (sym d) ∙ ones_sub a s p)

pub in_listed : (f : Field) (k s a : ℕ) (side : Side) (l r : Filled) → In a (halves f s (lowest f s)) → In l (listed_in f k a) → In r (listed_in f k (s - a))
    → In (match side l r) (listed_in f (suc k) s)
unfolding listed_in
in_listed f k s a side l r i j m =
    in_gather (λ a. gather (listed_in f k a) λ l. gather (listed_in f k (s - a)) λ r. two l r) a (match side l r) (halves f s (lowest f s)) i
    (in_gather (λ l. gather (listed_in f k (s - a)) λ r. two l r) l (match side l r) (listed_in f k a) j
    (in_gather (λ r. two l r) r (match side l r) (listed_in f k (s - a)) m (go side)))
  where
    go : (side : Side) → In (match side l r) (two l r)
    go first = inl refl
    go second = inr (inl refl)

pub complete : (f : Field) (k s : ℕ) → s < 2 ^ f.size → ones s ≡ 2 ^ k → (t : Filled) → On s t → In t (listed_in f k s)
unfolding listed_in
complete f zero s h o (sole e) q =
    let b : bit s e ≡ 1 = rw q (bit_pow e) in
    rw (eq-eqb (ones s) 1 o) (in_map sole e (members f s) (in_members f s e (true_bit s e b) (member_lt f.size s e h b)))
complete f zero s h o (match side l r) q =
    let z = q.halved in
    let g = (parted z.a z.b s z.sum z.apart).2 in
    let d = z.equal in
    absurd (omega arith)
complete f (suc k) s h o (sole e) q = absurd (omega (arith, ap ones q, ones_pow e, pow_pos k))
complete f (suc k) s h o (match side l r) q =
    let z = q.halved in
    let a = z.a in
    let b = z.b in
    let p = parted a b s z.sum z.apart in
    let g = p.2 in
    let d = z.equal in
    let sum = z.sum in
    in_listed f k s a side l r
    (in_halves f s (lowest f s) a (half_from s a p.0 (omega arith)) (q.lowest_first (lowest f s) (lowest_is f s h (positive s (suc k) o))))
    (complete f k a (omega arith) (omega arith) l z.on_first)
    (rw p.1 (complete f k b (omega arith) (omega arith) r z.on_second))

-- ---- sizes

-- a set with a filled bracket on it has 2 ^ k members, for some k
pub on_powers : OnPowersOnly
on_powers s (sole e) q = (0, ap ones q ∙ ones_pow e)
on_powers s (match side l r) q =
    let z = q.halved in
    let i = on_powers z.a l z.on_first in
    let g = (parted z.a z.b s z.sum z.apart).2 in
    let d = z.equal in
    let e = i.1 in
    (suc i.0, omega arith)

pub on_rounds : (s : ℕ) (t : Filled) → On s t → ones s ≡ 2 ^ rounds (ones s)
on_rounds s t q = let r = on_powers s t q in power_rounds (ones s) r.0 r.1

-- ---- each once

pub distinct_counting : (a n : ℕ) → Distinct (range_with_len a n)
distinct_counting a zero = tt
distinct_counting a (suc n) = (λ i. omega (arith, counting_in a (a + 1) n i), distinct_counting (a + 1) n)

pub distinct_kept : {X : Type 0} (p : X → Bool) (xs : List X) → Distinct xs → Distinct (filter p xs)
distinct_kept p [] d = tt
distinct_kept p (x ∷ xs) d = elim (cases_Bool (p x)) [
  | inl g ↦ rw g (λ i. d.0 (kept_in p x xs i).0, distinct_kept p xs d.1)
  | inr g ↦ rw g (distinct_kept p xs d.1)
]

pub members_once : (f : Field) (s : ℕ) → Distinct (members f s)
unfolding members
members_once f s = distinct_kept (has s) (range_with_len 0 f.size) (distinct_counting 0 f.size)

pub halves_once : (f : Field) (s e : ℕ) → Distinct (halves f s e)
unfolding halves
halves_once f s e = distinct_kept (λ a. half s a && has a e) (range_with_len 0 (suc s)) (distinct_counting 0 (suc s))

pub distinct_map : {X Y : Type 0} (f : X → Y) → ((x y : X) → f x ≡ f y → x ≡ y) → (xs : List X) → Distinct xs → Distinct (map f xs)
distinct_map f inj [] d = tt
distinct_map f inj (x ∷ xs) d =
    (λ i. let r = map_in f (f x) xs i in d.0 (rw (inj x r.0 r.2) r.1), distinct_map f inj xs d.1)

pub distinct_append : {X : Type 0} (xs ys : List X) → Distinct xs → Distinct ys → ((x : X) → In x xs → In x ys → ⊥) → Distinct (xs ++ ys)
distinct_append [] ys d e h = e
distinct_append (x ∷ xs) ys d e h =
    (λ i. elim (in_either x xs ys i) [ inl j ↦ d.0 j | inr j ↦ h x (inl refl) j ], distinct_append xs ys d.1 e (λ y i j. h y (inr i) j))

-- lists that share nothing, one after the other
pub distinct_gather : {X Y : Type 0} (f : X → List Y) (xs : List X) → Distinct xs → ((x : X) → In x xs → Distinct (f x))
    → ((x z : X) (y : Y) → In x xs → In z xs → In y (f x) → In y (f z) → x ≡ z) → Distinct (gather xs f)
unfolding gather
distinct_gather f [] d each apart = tt
distinct_gather {X} {Y} f (x ∷ xs) d each apart =
    distinct_append (f x) (gather xs f) (each x (inl refl))
    (distinct_gather f xs d.1 (λ z i. each z (inr i)) (λ u v y i j. apart u v y (inr i) (inr j)))
    (λ y i j. let r = gather_in f y xs j in d.0 (rw (apart x r.0 y (inl refl) (inr r.1) i r.2) r.1))

-- a bracket tells the set that it is on
pub on_one : (t : Filled) (s z : ℕ) → On s t → On z t → s ≡ z
on_one (sole e) s z p q = p ∙ sym q
on_one (match side l r) s z p q =
    let x = p.halved in
    let y = q.halved in
    sym x.sum ∙ ap₂ (λ (v w : ℕ). v + w) (on_one l x.a y.a x.on_first y.on_first) (on_one r x.b y.b x.on_second y.on_second) ∙ y.sum

two_distinct : (l r : Filled) → Distinct (two l r)
two_distinct l r = (λ i. elim i [ inl e ↦ (cc) | inr j ↦ j ], (λ i. i, tt))

-- against one bracket on the left
row : List Filled → Filled → List Filled
row rs l = gather rs (two l)

row_in : (t l : Filled) (rs : List Filled) → In t (row rs l) → (side : Side) × (r : Filled) × In r rs × (t ≡ match side l r)
unfolding row
row_in t l rs i =
    let p = gather_in (two l) t rs i in
    let q = two_in t l p.0 p.2 in
    (q.0, p.0, p.1, q.1)

row_distinct : (l : Filled) (rs : List Filled) → Distinct rs → Distinct (row rs l)
unfolding row
row_distinct l rs d =
    distinct_gather (two l) rs d (λ r i. two_distinct l r)
    (λ x z y i j p q.
    let u = two_in y l x p in
    let v = two_in y l z q in
    cc (u.1, v.1))

rows_distinct : (ls rs : List Filled) → Distinct ls → Distinct rs → Distinct (gather ls (row rs))
rows_distinct ls rs d e =
    distinct_gather (row rs) ls d (λ l i. row_distinct l rs e)
    (λ x z y i j p q.
    let u = row_in y x rs p in
    let v = row_in y z rs q in
    cc (u.3, v.3))

pub distinct : (f : Field) (k s : ℕ) → s < 2 ^ f.size → Distinct (listed_in f k s)
unfolding listed_in row
distinct f zero s h = go (eqb (ones s) 1)
  where
    go : (b : Bool) → Distinct (cond b (map sole (members f s)) [])
    go true = distinct_map sole (λ x y e. cc) (members f s) (members_once f s)
    go false = tt
distinct f (suc k) s h =
    distinct_gather (λ a. gather (listed_in f k a) (row (listed_in f k (s - a)))) (halves f s (lowest f s))
    (halves_once f s (lowest f s))
    (λ a i.
    let b = below a i in
    rows_distinct (listed_in f k a) (listed_in f k (s - a)) (distinct f k a b.0) (distinct f k (s - a) b.1))
    (λ a b t i j p q.
    let u = from a t p in
    let v = from b t q in
    let e : u.1 ≡ v.1 = cc (u.4, v.4) in
    on_one u.1 a b (sound f k a (below a i).0 u.1 u.3) (sound f k b (below b j).0 u.1 (rw e v.3)))
  where
    below : (a : ℕ) → In a (halves f s (lowest f s)) → (a < 2 ^ f.size) × (s - a < 2 ^ f.size)
    below a i =
        let l = part_le a s (half_parts s a (halves_in f s (lowest f s) a i).0).0 in
        omega arith

    from : (a : ℕ) (t : Filled) → In t (gather (listed_in f k a) (row (listed_in f k (s - a))))
        → (side : Side) × (l : Filled) × (r : Filled) × In l (listed_in f k a) × (t ≡ match side l r)
    from a t i =
        let p = gather_in (row (listed_in f k (s - a))) t (listed_in f k a) i in
        let q = row_in t p.0 (listed_in f k (s - a)) p.2 in
        (q.0, p.0, q.1, p.1, q.3)

-- ---- without the rounds

pub all_listed : ListedEachOnce
unfolding listed
all_listed f s h = record {
  only = sound f (rounds (ones s)) s h;
  every = λ t q. complete f (rounds (ones s)) s h (on_rounds s t q) t q;
  once = distinct f (rounds (ones s)) s h;
}

-- those with a given champion
pub won_listed : (f : Field) (s w : ℕ) → s < 2 ^ f.size → EachOnce (λ t. On s t × (champion t ≡ w)) (filter (λ t. eqb (champion t) w) (listed f s))
won_listed f s w h =
    let p : Filled → Bool = λ t. eqb (champion t) w in
    let all = all_listed f s h in
    record {
      only = λ t i. let q = kept_in p t (listed f s) i in (all.only t q.0, eqb-true (champion t) w q.1);
      every = λ t q. in_kept p t (listed f s) (all.every t q.0) (eq-eqb (champion t) w q.1);
      once = distinct_kept p (listed f s) all.once;
    }
