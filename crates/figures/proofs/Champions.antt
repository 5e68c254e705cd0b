-- The champion of a bracket on s is a member of s. Assumes nothing.
use Rattle.std.proofs.Common.{◌≡◌, ℕ, zero, suc, ◌-◌, ◌^◌, ◌<◌, true, ◌&&◌, eqb, List, [], ◌∷◌, get_or, refl, inl, inr, arith}
use lib.Count.{ones}
use Rattle.std.specs.List.{range_with_len}
use Rattle.std.proofs.lemmas.Bool.{and_parts, and_from, eqb-true, cases_Bool}
use Rattle.figures.specs.Lists.{In, gather}
use Rattle.figures.specs.Fields.{Field}
use Rattle.figures.specs.Sets.{has, half, members, lowest, halves}
use Rattle.figures.specs.Brackets.{Side, first, second, Filled, sole, match, pick, champion, listed_in}
use Rattle.figures.proofs.Lists.{in_kept, kept_in, in_counting, counting_in, map_in, gather_in}
use Rattle.figures.proofs.Bits.{Part, half_parts, part_le, part_sub, has_part, some_member}

pub members_in : (f : Field) (s e : ℕ) → In e (members f s) → (has s e ≡ true) × (e < f.size)
unfolding members
members_in f s e h =
    let p = kept_in (has s) e (range_with_len 0 f.size) h in
    let q = counting_in e 0 f.size p.0 in
    (p.1, omega arith)

pub in_members : (f : Field) (s e : ℕ) → has s e ≡ true → e < f.size → In e (members f s)
unfolding members
in_members f s e h l = in_kept (has s) e (range_with_len 0 f.size) (in_counting e 0 f.size (omega arith) (omega arith)) h

pub halves_in : (f : Field) (s e a : ℕ) → In a (halves f s e) → (half s a ≡ true) × (has a e ≡ true)
unfolding halves
halves_in f s e a h = and_parts (half s a) (has a e) (kept_in (λ x. half s x && has x e) a (range_with_len 0 (suc s)) h).1

pub in_halves : (f : Field) (s e a : ℕ) → half s a ≡ true → has a e ≡ true → In a (halves f s e)
unfolding halves
in_halves f s e a h g =
    let l = part_le a s (half_parts s a h).0 in
    in_kept (λ x. half s x && has x e) a (range_with_len 0 (suc s)) (in_counting a 0 (suc s) (omega arith) (omega arith)) (and_from (half s a) (has a e) h g)

-- a bracket of no rounds: its set has one member
pub single : (f : Field) (s : ℕ) (t : Filled) → In t (listed_in f 0 s) → (ones s ≡ 1) × (e : ℕ) × In e (members f s) × (t ≡ sole e)
unfolding listed_in
single f s t h = elim (cases_Bool (eqb (ones s) 1)) [
  | inl q ↦ (let p = map_in sole t (members f s) (rw q at h) in (eqb-true (ones s) 1 q, p.0, p.1, p.2))
  | inr q ↦ absurd (rw q at h)
]

-- the two results of the last match between l and r
abbrev pub two : Filled → Filled → List Filled
two l r = match first l r ∷ match second l r ∷ []

pub two_in : (t l r : Filled) → In t (two l r) → (side : Side) × (t ≡ match side l r)
two_in t l r (inl e) = (first, e)
two_in t l r (inr (inl e)) = (second, e)
two_in t l r (inr (inr e)) = absurd e

-- what a bracket of one more round is made of
pub record Made (f : Field) (k s : ℕ) (t : Filled) : Type 0 where
  pub one_half : ℕ
  pub side : Side
  pub left : Filled
  pub right : Filled
  pub chosen : In one_half (halves f s (lowest f s))
  pub left_in : In left (listed_in f k one_half)
  pub right_in : In right (listed_in f k (s - one_half))
  pub is : t ≡ match side left right

pub made : (f : Field) (k s : ℕ) (t : Filled) → In t (listed_in f (suc k) s) → Made f k s t
unfolding listed_in
made f k s t h =
    let p = gather_in (λ a. gather (listed_in f k a) λ l. gather (listed_in f k (s - a)) λ r. two l r) t (halves f s (lowest f s)) h in
    let q = gather_in (λ l. gather (listed_in f k (s - p.0)) λ r. two l r) t (listed_in f k p.0) p.2 in
    let r = gather_in (λ r. two q.0 r) t (listed_in f k (s - p.0)) q.2 in
    let u = two_in t q.0 r.0 r.2 in
    record { one_half = p.0; side = u.0; left = q.0; right = r.0; chosen = p.1; left_in = q.1; right_in = r.1; is = u.1 }

-- e is a member of s and an entrant of the field
abbrev pub Within : Field → ℕ → ℕ → Type 0
Within f s e = (has s e ≡ true) × (e < f.size)

pub champion_within : (f : Field) (k s : ℕ) (t : Filled) → In t (listed_in f k s) → Within f s (champion t)
unfolding listed_in champion pick
champion_within f zero s t h =
    let p = single f s t h in
    rw p.3 (members_in f s p.1 p.2)
champion_within f (suc k) s t h =
    let m = made f k s t h in
    let a = m.one_half in
    let p = (half_parts s a (halves_in f s (lowest f s) a m.chosen).0).0 in
    rw m.is (go a m.left m.right p (champion_within f k a m.left m.left_in) (champion_within f k (s - a) m.right m.right_in) m.side)
  where
    go : (a : ℕ) (l r : Filled) → Part a s → Within f a (champion l) → Within f (s - a) (champion r) → (side : Side) → Within f s (champion (match side l r))
    go a l r p i j first = (has_part s a (champion l) p i.0, i.1)
    go a l r p i j second = (has_part s (s - a) (champion r) (part_sub a s p) j.0, j.1)

first_in : (e : ℕ) (xs : List ℕ) → In e xs → In (get_or xs 0 0) xs
first_in e [] h = absurd h
first_in e (x ∷ xs) h = inl refl

-- the lowest member is a member
pub lowest_in_lem : (f : Field) (s : ℕ) → s < 2 ^ f.size → 0 < s → Within f s (lowest f s)
unfolding lowest
lowest_in_lem f s h p =
    let r = some_member f.size s h p in
    members_in f s (get_or (members f s) 0 0) (first_in r.0 (members f s) (in_members f s r.0 r.2 r.1))

-- a set with a bracket of k rounds on it has 2 ^ k members
pub listed_size : (f : Field) (k s : ℕ) (t : Filled) → In t (listed_in f k s) → ones s ≡ 2 ^ k
listed_size f zero s t h = (single f s t h).0
listed_size f (suc k) s t h =
    let m = made f k s t h in
    let p = (half_parts s m.one_half (halves_in f s (lowest f s) m.one_half m.chosen).0).1 in
    omega (arith, listed_size f k m.one_half m.left m.left_in, p)
