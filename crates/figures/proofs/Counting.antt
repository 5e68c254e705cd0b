-- How many brackets there are on a set. Assumes nothing.
use Rattle.std.proofs.Common.{◌≡◌, ℕ, zero, suc, ◌-◌, ◌*◌, ◌^◌, ◌<◌, true, cond, eqb, List, [], ◌∷◌, map, length, None, sym, refl, ap, ◌∙◌, ap₂, inl, inr, suc-mul, arith, length-append, pow_pos}
use lib.Count.{ones}
use lib.ListN.{length-map}
use Rattle.std.proofs.lemmas.Bool.{eq-eqb}
use Rattle.figures.specs.Lists.{In, Distinct, EachOnce, gather}
use Rattle.figures.specs.Fields.{Field}
use Rattle.figures.specs.Sets.{has, members, lowest, halves}
use Rattle.figures.specs.Brackets.{Bracket, alone, pair, first, Filled, sole, match, bracket, Ordered, BracketOn, On, rounds, listed_in}
use Rattle.figures.specs.Counts.{choose, bracket_count}
use Rattle.figures.proofs.Lists.{in_map, map_in, in_gather, gather_in, same_length}
use Rattle.figures.proofs.Bits.{half_parts, part_le, ones_sub, bit_true, ones_one}
use Rattle.figures.proofs.Champions.{made, single, members_in, in_members, halves_in, lowest_in_lem}
use Rattle.figures.proofs.Listed.{positive, in_listed, sound, complete, on_one, members_once, halves_once, distinct_map, distinct_gather}
use Rattle.figures.proofs.Rounds.{rounds_pow}
use Rattle.figures.proofs.Halving.{halves_count}

-- the bracket filled so that the champion of each first half wins
firsts_win : Bracket → Filled
firsts_win (alone e) = sole e
firsts_win (pair l r) = match first (firsts_win l) (firsts_win r)

-- who wins makes no difference to the set that a bracket is on
both_halves : (s : ℕ) (P Q P' Q' : ℕ → Type 0) → ((a : ℕ) → P a → P' a) → ((b : ℕ) → Q b → Q' b) → Ordered s P Q → Ordered s P' Q'
both_halves s P Q P' Q' p q o =
    let h = o.halved in
    record {
      halved = record { a = h.a; b = h.b; sum = h.sum; apart = h.apart; equal = h.equal; on_first = p h.a h.on_first; on_second = q h.b h.on_second };
      lowest_first = o.lowest_first;
    }

pub forgotten : (t : Filled) (s : ℕ) → On s t → BracketOn s (bracket t)
unfolding bracket
forgotten (sole e) s h = h
forgotten (match side l r) s h = both_halves s (λ a. On a l) (λ b. On b r) (λ a. BracketOn a (bracket l)) (λ b. BracketOn b (bracket r)) (forgotten l) (forgotten r) h

pub remembered : (t : Filled) (s : ℕ) → BracketOn s (bracket t) → On s t
unfolding bracket
remembered (sole e) s h = h
remembered (match side l r) s h = both_halves s (λ a. BracketOn a (bracket l)) (λ b. BracketOn b (bracket r)) (λ a. On a l) (λ b. On b r) (remembered l) (remembered r) h

bracket_back : (b : Bracket) → bracket (firsts_win b) ≡ b
unfolding bracket firsts_win
bracket_back (alone e) = refl
bracket_back (pair l r) = ap₂ pair (bracket_back l) (bracket_back r)

on_firsts : (s : ℕ) (b : Bracket) → BracketOn s b → On s (firsts_win b)
on_firsts s b h = remembered (firsts_win b) s (rw (bracket_back b) h)

firsts_on : (s : ℕ) (b : Bracket) → On s (firsts_win b) → BracketOn s b
firsts_on s b h = rw (bracket_back b) at (forgotten (firsts_win b) s h)

-- every bracket of k rounds on s
brackets_in : Field → ℕ → ℕ → List Bracket
brackets_in f zero s = cond (eqb (ones s) 1) (map alone (members f s)) []
brackets_in f (suc k) s =
    gather (halves f s (lowest f s)) λ a.
    gather (brackets_in f k a) λ l.
    map (pair l) (brackets_in f k (s - a))

-- a half, what it is to s
halved : (f : Field) (k s e a : ℕ) → s < 2 ^ f.size → ones s ≡ 2 ^ suc k → In a (halves f s e) → (a < 2 ^ f.size) × (ones a ≡ 2 ^ k) × (s - a < 2 ^ f.size) × (ones (s - a) ≡ 2 ^ k)
halved f k s e a h o i =
    let p = half_parts s a (halves_in f s e a i).0 in
    let l = part_le a s p.0 in
    let q = ones_sub a s p.0 in
    let r = p.1 in
    (omega arith, omega arith, omega arith, omega arith)

one_bracket : (f : Field) (s : ℕ) → ones s ≡ 1 → brackets_in f 0 s ≡ map alone (members f s)
unfolding brackets_in
one_bracket f s o = rw (eq-eqb (ones s) 1 o) refl

one_listed : (f : Field) (s : ℕ) → ones s ≡ 1 → listed_in f 0 s ≡ map sole (members f s)
unfolding listed_in
one_listed f s o = rw (eq-eqb (ones s) 1 o) refl

-- what a bracket of one more round is made of
record Paired (f : Field) (k s : ℕ) (b : Bracket) : Type 0 where
  one_half : ℕ
  left : Bracket
  right : Bracket
  chosen : In one_half (halves f s (lowest f s))
  left_in : In left (brackets_in f k one_half)
  right_in : In right (brackets_in f k (s - one_half))
  is : b ≡ pair left right

paired : (f : Field) (k s : ℕ) (b : Bracket) → In b (brackets_in f (suc k) s) → Paired f k s b
unfolding brackets_in
paired f k s b i =
    let p = gather_in (λ a. gather (brackets_in f k a) λ l. map (pair l) (brackets_in f k (s - a))) b (halves f s (lowest f s)) i in
    let q = gather_in (λ l. map (pair l) (brackets_in f k (s - p.0))) b (brackets_in f k p.0) p.2 in
    let r = map_in (pair q.0) b (brackets_in f k (s - p.0)) q.2 in
    record { one_half = p.0; left = q.0; right = r.0; chosen = p.1; left_in = q.1; right_in = r.1; is = r.2 }

in_paired : (f : Field) (k s a : ℕ) (l r : Bracket) → In a (halves f s (lowest f s)) → In l (brackets_in f k a) → In r (brackets_in f k (s - a)) → In (pair l r) (brackets_in f (suc k) s)
unfolding brackets_in
in_paired f k s a l r i j m =
    in_gather (λ a. gather (brackets_in f k a) λ l. map (pair l) (brackets_in f k (s - a))) a (pair l r) (halves f s (lowest f s)) i
    (in_gather (λ l. map (pair l) (brackets_in f k (s - a))) l (pair l r) (brackets_in f k a) j
    (in_map (pair l) r (brackets_in f k (s - a)) m))

-- a bracket that is listed is one on s
on_brackets : (f : Field) (k s : ℕ) → s < 2 ^ f.size → ones s ≡ 2 ^ k → (b : Bracket) → In b (brackets_in f k s) → In (firsts_win b) (listed_in f k s)
unfolding firsts_win
on_brackets f zero s h o b i =
    let p = map_in alone b (members f s) (rw (one_bracket f s o) at i) in
    rw (one_listed f s o, p.2) (in_map sole p.0 (members f s) p.1)
on_brackets f (suc k) s h o b i =
    let p = paired f k s b i in
    let d = halved f k s (lowest f s) p.one_half h o p.chosen in
    rw p.is
    (in_listed f k s p.one_half first (firsts_win p.left) (firsts_win p.right) p.chosen
    (on_brackets f k p.one_half d.0 d.1 p.left p.left_in) (on_brackets f k (s - p.one_half) d.2 d.3 p.right p.right_in))

-- and each one on s is listed
listed_back : (f : Field) (k s : ℕ) → s < 2 ^ f.size → ones s ≡ 2 ^ k → (b : Bracket) → In (firsts_win b) (listed_in f k s) → In b (brackets_in f k s)
unfolding firsts_win
listed_back f zero s h o (alone e) i =
    let p = single f s (sole e) i in
    let q : e ≡ p.1 = cc p.3 in
    rw (one_bracket f s o) (in_map alone e (members f s) (rw q p.2))
listed_back f zero s h o (pair l r) i =
    let p = single f s (match first (firsts_win l) (firsts_win r)) i in
    absurd (cc p.3)
listed_back f (suc k) s h o (alone e) i =
    let m = made f k s (sole e) i in
    absurd (cc m.is)
listed_back f (suc k) s h o (pair l r) i =
    let m = made f k s (match first (firsts_win l) (firsts_win r)) i in
    let x : m.left ≡ firsts_win l = cc m.is in
    let y : m.right ≡ firsts_win r = cc m.is in
    let d = halved f k s (lowest f s) m.one_half h o m.chosen in
    in_paired f k s m.one_half l r m.chosen
    (listed_back f k m.one_half d.0 d.1 l (rw x at m.left_in)) (listed_back f k (s - m.one_half) d.2 d.3 r (rw y at m.right_in))

-- each once
brackets_distinct : (f : Field) (k s : ℕ) → s < 2 ^ f.size → ones s ≡ 2 ^ k → Distinct (brackets_in f k s)
unfolding brackets_in
brackets_distinct f zero s h o =
    rw (one_bracket f s o) (distinct_map alone (λ x y e. cc) (members f s) (members_once f s))
brackets_distinct f (suc k) s h o =
    distinct_gather (λ a. gather (brackets_in f k a) λ l. map (pair l) (brackets_in f k (s - a))) (halves f s (lowest f s))
    (halves_once f s (lowest f s))
    (λ a i. let d = halved f k s (lowest f s) a h o i in
    rows (brackets_in f k a) (brackets_in f k (s - a)) (brackets_distinct f k a d.0 d.1) (brackets_distinct f k (s - a) d.2 d.3))
    (λ a z b i j p q.
    let u = from a b p in
    let v = from z b q in
    let d = halved f k s (lowest f s) a h o i in
    let g = halved f k s (lowest f s) z h o j in
    let e : u.0 ≡ v.0 = cc (u.3, v.3) in
    on_one (firsts_win u.0) a z
    (sound f k a d.0 (firsts_win u.0) (on_brackets f k a d.0 d.1 u.0 u.2))
    (sound f k z g.0 (firsts_win u.0) (on_brackets f k z g.0 g.1 u.0 (rw e v.2))))
  where
    rows : (ls rs : List Bracket) → Distinct ls → Distinct rs → Distinct (gather ls λ l. map (pair l) rs)
    rows ls rs d e =
        distinct_gather (λ l. map (pair l) rs) ls d (λ l i. distinct_map (pair l) (λ x y q. cc) rs e)
        (λ x z y i j p q.
        let u = map_in (pair x) y rs p in
        let v = map_in (pair z) y rs q in
        cc (u.2, v.2))

    from : (a : ℕ) (b : Bracket) → In b (gather (brackets_in f k a) λ l. map (pair l) (brackets_in f k (s - a))) → (l : Bracket) × (r : Bracket) × In l (brackets_in f k a) × (b ≡ pair l r)
    from a b i =
        let p = gather_in (λ l. map (pair l) (brackets_in f k (s - a))) b (brackets_in f k a) i in
        let q = map_in (pair p.0) b (brackets_in f k (s - a)) p.2 in
        (p.0, q.0, p.1, q.2)

-- ---- how long the list is

gather_length : {X Y : Type 0} (g : X → List Y) (c : ℕ) (xs : List X) → ((x : X) → In x xs → length (g x) ≡ c) → length (gather xs g) ≡ length xs * c
unfolding gather
gather_length g c [] h = omega arith
gather_length g c (x ∷ xs) h =
    omega (arith, length-append (g x) (gather xs g), h x (inl refl), gather_length g c xs (λ y i. h y (inr i)), suc-mul (length xs) c)

only_one : (e : ℕ) (xs : List ℕ) → Distinct xs → In e xs → ((x : ℕ) → In x xs → x ≡ e) → length xs ≡ 1
only_one e [] d i h = absurd i
only_one e (x ∷ []) d i h = refl
only_one e (x ∷ y ∷ xs) d i h = absurd (d.0 (inl (h x (inl refl) ∙ sym (h y (inr (inl refl))))))

pow_same : (a b : ℕ) → 2 ^ a ≡ 2 ^ b → a ≡ b
pow_same a b e = cc (rounds_pow a, rounds_pow b, ap rounds e)

one_member : (f : Field) (s : ℕ) → s < 2 ^ f.size → ones s ≡ 1 → length (members f s) ≡ 1
one_member f s h o =
    let w = lowest_in_lem f s h (positive s 0 o) in
    let at : (x : ℕ) → has s x ≡ true → s ≡ 2 ^ x = λ x m. ones_one x s (bit_true s x m) o in
    only_one (lowest f s) (members f s) (members_once f s) (in_members f s (lowest f s) w.0 w.1)
    (λ x i. pow_same x (lowest f s) (sym (at x (members_in f s x i).0) ∙ at (lowest f s) w.0))

brackets_length : (f : Field) (k s : ℕ) → s < 2 ^ f.size → ones s ≡ 2 ^ k → length (brackets_in f k s) ≡ bracket_count k
unfolding brackets_in bracket_count
brackets_length f zero s h o = ap length (one_bracket f s o) ∙ length-map (members f s) alone ∙ one_member f s h o
brackets_length f (suc k) s h o =
    let e = lowest f s in
    let p = pow_pos k in
    let q : suc (2 ^ k - 1) ≡ 2 ^ k = omega arith in
    let size : ones s ≡ 2 * suc (2 ^ k - 1) = omega arith in
    gather_length (λ a. gather (brackets_in f k a) λ l. map (pair l) (brackets_in f k (s - a))) (bracket_count k * bracket_count k) (halves f s (lowest f s))
    (λ a i. let t = halved f k s (lowest f s) a h o i in
    gather_length (λ l. map (pair l) (brackets_in f k (s - a))) (bracket_count k) (brackets_in f k a) (λ l j. length-map (brackets_in f k (s - a)) (pair l) ∙ brackets_length f k (s - a) t.2 t.3)
    ∙ ap (λ (x : ℕ). x * bracket_count k) (brackets_length f k a t.0 t.1))
    ∙ ap (λ (x : ℕ). x * (bracket_count k * bracket_count k)) (halves_count f f.size s (lowest f s) (2 ^ k - 1) h (lowest_in_lem f s h (positive s (suc k) o)).0 size ∙ ap (λ (x : ℕ). choose (2 * x - 1) (2 ^ k - 1)) q)

-- ---- any list that has each once is as long

pub counted : (f : Field) (k s : ℕ) → s < 2 ^ f.size → ones s ≡ 2 ^ k → (bs : List Bracket) → Distinct bs → ((b : Bracket) → In b bs → BracketOn s b) → ((b : Bracket) → BracketOn s b → In b bs) → length bs ≡ bracket_count k
counted f k s h o bs d only every =
    same_length bs (brackets_in f k s) d (brackets_distinct f k s h o)
    (λ b i. listed_back f k s h o b (complete f k s h o (firsts_win b) (on_firsts s b (only b i))))
    (λ b i. every b (firsts_on s b (sound f k s h (firsts_win b) (on_brackets f k s h o b i))))
    ∙ brackets_length f k s h o

-- the whole field of n entrants, and its brackets
pub whole_counted : (n k c : ℕ) → ones (2 ^ n - 1) ≡ 2 ^ k → bracket_count k ≡ c → (bs : List Bracket) → EachOnce (BracketOn (2 ^ n - 1)) bs → length bs ≡ c
whole_counted n k c o is bs each =
    let f : Field = record { size = n; beats = λ a b. None } in
    counted f k (2 ^ n - 1) (omega (arith, pow_pos n)) o bs each.once each.only each.every ∙ is
