-- Of the ways to write a filled bracket, one and only one has the half with the lowest entrant first throughout. Assumes nothing.
use Rattle.std.proofs.Common.{◌≡◌, ℕ, ◌+◌, ◌-◌, ◌^◌, ◌<◌, Bool, true, false, not, None, sym, refl, ap, ◌∙◌, ap₂, inl, inr, arith, pow_pos}
use lib.Bits.{and_comm}
use Rattle.std.proofs.lemmas.Bool.{both_ways}
use Rattle.figures.specs.Sets.{has, Member, Lowest, lowest, Apart}
use Rattle.figures.specs.Brackets.{Side, first, second, Filled, sole, match, On, pick, champion}
use Rattle.algebra.specs.Semirings.{Semiring, LawfulSemiring}
use Rattle.figures.specs.Fields.{Field}
use Rattle.figures.specs.Figures.{worth}
use Rattle.figures.specs.Writings.{other, Same, Written}
use Rattle.figures.specs.Theorems.{LowestFirstOnce, SameWorth}
use Rattle.figures.proofs.Rounds.{below_pow}
use Rattle.figures.proofs.Bits.{has_rest, part_sum}
use Rattle.figures.proofs.Listed.{lowest_is, lowest_same}

-- a bracket stands on somebody
somebody : (s : ℕ) (t : Filled) → Written s t → 0 < s
somebody s (sole e) p = omega (arith, pow_pos e, p)
somebody s (match side l r) p = omega (arith, somebody p.a l p.on_first, p.sum)

loose : (s : ℕ) (t : Filled) → On s t → Written s t
loose s (sole e) p = p
loose s (match side l r) p =
    let z = p.halved in
    record {
      a = z.a;
      b = z.b;
      sum = z.sum;
      apart = z.apart;
      equal = z.equal;
      on_first = loose z.a l z.on_first;
      on_second = loose z.b r z.on_second;
    }

-- who is the lowest of a set with anybody in it
the_lowest : (s : ℕ) → 0 < s → (e : ℕ) × Lowest s e
the_lowest s h =
    let f : Field = record { size = s; beats = λ x y. None } in
    (lowest f s, lowest_is f s (below_pow s) h)

-- a member of a + b is in b where it is not in a
in_rest : (a b s e : ℕ) → a + b ≡ s → Apart a b → Member s e → has b e ≡ not (has a e)
in_rest a b s e q p m =
    let d : s - a ≡ b = omega arith in
    rw (← d) (has_rest s a e (rw (← q) (part_sum a b p)) m)

same_set : (t u : Filled) (s z : ℕ) → Written s t → Written z u → Same t u → s ≡ z
same_set (sole e) (sole d) s z p q h = p ∙ ap (λ (x : ℕ). 2 ^ x) h ∙ sym q
same_set (sole e) (match v m n) s z p q h = absurd h
same_set (match v l r) (sole d) s z p q h = absurd h
same_set (match v l r) (match w m n) s z p q (inl h) =
    let x = same_set l m p.a q.a p.on_first q.on_first h.1 in
    let y = same_set r n p.b q.b p.on_second q.on_second h.2 in
    omega (arith, p.sum, q.sum)
same_set (match v l r) (match w m n) s z p q (inr h) =
    let x = same_set l n p.a q.b p.on_first q.on_second h.1 in
    let y = same_set r m p.b q.a p.on_second q.on_first h.2 in
    omega (arith, p.sum, q.sum)

same_on : (s : ℕ) (t u : Filled) → On s t → On s u → Same t u → t ≡ u
same_on s (sole e) (sole d) p q h = ap sole h
same_on s (sole e) (match v m n) p q h = absurd h
same_on s (match v l r) (sole d) p q h = absurd h
same_on s (match v l r) (match w m n) p q (inl h) =
    let c = p.halved in
    let d = q.halved in
    let x = same_set l m c.a d.a (loose c.a l c.on_first) (loose d.a m d.on_first) h.1 in
    let y = same_set r n c.b d.b (loose c.b r c.on_second) (loose d.b n d.on_second) h.2 in
    let i = same_on c.a l m c.on_first (rw x d.on_first) h.1 in
    let j = same_on c.b r n c.on_second (rw y d.on_second) h.2 in
    let k = h.0 in
    cc
same_on s (match v l r) (match w m n) p q (inr h) =
    let c = p.halved in
    let d = q.halved in
    let y = same_set r m c.b d.a (loose c.b r c.on_second) (loose d.a m d.on_first) h.2 in
    let low = the_lowest s (somebody s (match v l r) (loose s (match v l r) p)) in
    let e = low.0 in
    let o = low.1 in
    absurd (both_ways (has c.b e) (in_rest c.a c.b s e c.sum c.apart o.0 ∙ ap not (p.lowest_first e o)) (rw (← y) at (q.lowest_first e o)))

other_other : (s : Side) → s ≡ other (other s)
other_other first = refl
other_other second = refl

-- of two writings, either is one of the other
same_back : (t u : Filled) → Same t u → Same u t
same_back (sole e) (sole d) h = sym h
same_back (sole e) (match w m n) h = absurd h
same_back (match v l r) (sole d) h = absurd h
same_back (match v l r) (match w m n) (inl h) = inl (sym h.0, same_back l m h.1, same_back r n h.2)
same_back (match v l r) (match w m n) (inr h) = inr (other_other w ∙ ap other (sym h.0), same_back r m h.2, same_back l n h.1)

same_both : (t u v : Filled) → Same t u → Same u v → Same t v
same_both (sole e) (sole d) (sole c) h g = h ∙ g
same_both (sole e) (sole d) (match x i j) h g = absurd g
same_both (sole e) (match w m n) v h g = absurd h
same_both (match v l r) (sole d) u h g = absurd h
same_both (match v l r) (match w m n) (sole c) h g = absurd g
same_both (match v l r) (match w m n) (match x i j) (inl h) (inl g) =
    inl (h.0 ∙ g.0, same_both l m i h.1 g.1, same_both r n j h.2 g.2)
same_both (match v l r) (match w m n) (match x i j) (inl h) (inr g) =
    inr (h.0 ∙ g.0, same_both l m j h.1 g.1, same_both r n i h.2 g.2)
same_both (match v l r) (match w m n) (match x i j) (inr h) (inl g) =
    inr (h.0 ∙ ap other g.0, same_both l n j h.1 g.2, same_both r m i h.2 g.1)
same_both (match v l r) (match w m n) (match x i j) (inr h) (inr g) =
    inl (h.0 ∙ ap other g.0 ∙ sym (other_other x), same_both l n i h.1 g.2, same_both r m j h.2 g.1)

some : (s : ℕ) (t : Filled) → Written s t → (u : Filled) × On s u × Same t u
some s (sole e) p = (sole e, p, refl)
some s (match v l r) p = go (some p.a l p.on_first) (some p.b r p.on_second) (has p.a low.0) refl
  where
    low : (e : ℕ) × Lowest s e
    low = the_lowest s (somebody s (match v l r) p)

    moved : (c : ℕ) → Member c low.0 → (e : ℕ) → Lowest s e → Member c e
    moved c m e z = rw (← lowest_same s low.0 e low.1 z) m

    go : ((u : Filled) × On p.a u × Same l u) → ((u : Filled) × On p.b u × Same r u) → (t : Bool) → has p.a low.0 ≡ t
        → (u : Filled) × On s u × Same (match v l r) u
    go x y true h = (
      match v x.0 y.0,
      record {
        halved = record { a = p.a; b = p.b; sum = p.sum; apart = p.apart; equal = p.equal; on_first = x.1; on_second = y.1 };
        lowest_first = moved p.a h;
      },
      inl (refl, x.2, y.2),
    )
    go x y false h =
        let m : Member p.b low.0 = in_rest p.a p.b s low.0 p.sum p.apart low.1.0 ∙ ap not h in (
          match (other v) y.0 x.0,
          record {
            halved = record {
              a = p.b;
              b = p.a;
              sum = omega (arith, p.sum);
              apart = and_comm p.b p.a ∙ p.apart;
              equal = sym p.equal;
              on_first = y.1;
              on_second = x.1;
            };
            lowest_first = moved p.b m;
          },
          inr (other_other v, x.2, y.2),
        )

same_champion_lem : (t u : Filled) → Same t u → champion t ≡ champion u
unfolding champion pick
same_champion_lem (sole e) (sole d) h = h
same_champion_lem (sole e) (match w m n) h = absurd h
same_champion_lem (match v l r) (sole d) h = absurd h
same_champion_lem (match v l r) (match w m n) (inl h) =
    ap (λ x. pick x (champion l) (champion r)) h.0 ∙ ap₂ (pick w) (same_champion_lem l m h.1) (same_champion_lem r n h.2)
same_champion_lem (match v l r) (match w m n) (inr h) =
    ap (λ x. pick x (champion l) (champion r)) h.0 ∙ ap₂ (pick (other w)) (same_champion_lem l n h.1) (same_champion_lem r m h.2) ∙ turn w (champion n) (champion m)
  where
    turn : (w : Side) (x y : ℕ) → pick (other w) x y ≡ pick w y x
    turn first x y = refl
    turn second x y = refl

pub lowest_first_once : LowestFirstOnce
lowest_first_once = record { some = some; no_other = λ s t u v p q h g. same_on s u v p q (same_both u t v (same_back t u h) g); same_champion = same_champion_lem }

-- a match is worth the same from either side
match_worth : {M : Type 0} (A : Semiring M) → LawfulSemiring A → (f : Field) (w : Side) (l r : Filled) → worth A f (match (other w) l r) ≡ worth A f (match w r l)
unfolding worth pick
match_worth A L f first l r = ap (λ x. A.times x (A.weight (f.beats (champion r) (champion l)))) (L.times_comm (worth A f l) (worth A f r))
match_worth A L f second l r = ap (λ x. A.times x (A.weight (f.beats (champion l) (champion r)))) (L.times_comm (worth A f l) (worth A f r))

-- parts of the same worth and champions make matches of the same worth
match_parts : {M : Type 0} (A : Semiring M) (f : Field) (w : Side) (l r m q : Filled) → worth A f l ≡ worth A f m → worth A f r ≡ worth A f q
    → champion l ≡ champion m → champion r ≡ champion q → worth A f (match w l r) ≡ worth A f (match w m q)
unfolding worth
match_parts A f w l r m q a b c d =
    ap₂ A.times (ap₂ A.times a b) (ap₂ (λ x y. A.weight (f.beats (pick w x y) (pick w y x))) c d)

pub same_worth : {M : Type 0} (A : Semiring M) → LawfulSemiring A → SameWorth A
unfolding worth
same_worth A L f (sole e) (sole d) h = refl
same_worth A L f (sole e) (match w m n) h = absurd h
same_worth A L f (match v l r) (sole d) h = absurd h
same_worth A L f (match v l r) (match w m n) (inl h) =
    ap (λ x. worth A f (match x l r)) h.0
    ∙ match_parts A f w l r m n (same_worth A L f l m h.1) (same_worth A L f r n h.2) (same_champion_lem l m h.1) (same_champion_lem r n h.2)
same_worth A L f (match v l r) (match w m n) (inr h) =
    ap (λ x. worth A f (match x l r)) h.0 ∙ match_worth A L f w l r
    ∙ match_parts A f w r l m n (same_worth A L f r m h.2) (same_worth A L f l n h.1) (same_champion_lem r m h.2) (same_champion_lem l n h.1)
