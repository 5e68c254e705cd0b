-- What a filled bracket on a set is made of. Assumes nothing.
use Rattle.std.proofs.Common.{◌≡◌, ℕ, suc, ◌+◌, ◌*◌, ◌^◌, ◌<◌, ◌≤◌, ◌⊎◌, sym, refl, ap, ◌∙◌, subst, inl, inr, arith}
use lib.Count.{ones}
use Rattle.std.proofs.lemmas.Bool.{cases_lt}
use Rattle.figures.specs.Sets.{Member, Lowest, Apart}
use Rattle.figures.specs.Brackets.{Side, first, second, Filled, sole, match, pick, champion, On}
use Rattle.figures.proofs.Bits.{ones_pow, bit_true, member_lt}
use Rattle.records.specs.Records.{rounds_of}
use Rattle.records.proofs.Unions.{pow_same, ones_sum, in_first, in_second, in_one, in_both, one_low}

-- the entrant of the first leaf
abbrev pub opening : Filled → ℕ
opening (sole e) = e
opening (match side l r) = opening l

-- what is known of a bracket on s
pub record Known (s : ℕ) (t : Filled) : Type 0 where
  pub sized : ones s ≡ 2 ^ rounds_of t
  pub low : Lowest s (opening t)
  pub won : Member s (champion t)

-- what is known of the two halves of a match
pub record Two (l r : Filled) : Type 0 where
  pub level : rounds_of l ≡ rounds_of r
  pub opens : opening l < opening r
  pub differ : champion l ≡ champion r → ⊥

two : (a b : ℕ) (l r : Filled) → Apart a b → ones a ≡ ones b → ((e : ℕ) → Lowest (a + b) e → Member a e) → Known a l → Known b r → Two l r
two a b l r h same low p q = record {
  level = pow_same (rounds_of l) (rounds_of r) (sym p.sized ∙ same ∙ q.sized);
  opens = go (cases_lt (opening l) (opening r));
  differ = λ e. let P : ℕ → Type 0 = λ x. Member b x in in_both a b (champion l) h p.won (subst P (sym e) q.won);
}
  where
    go : (opening l < opening r) ⊎ (opening r ≤ opening l) → opening l < opening r
    go (inl x) = x
    go (inr x) = absurd (in_both a b (opening r) h (low (opening r) (in_second a b (opening r) h q.low.0, least)) q.low.0)
      where
        by : (e : ℕ) → Member a e ⊎ Member b e → opening r ≤ e
        by e (inl m) = let z = p.low.1 e m in omega arith
        by e (inr m) = q.low.1 e m

        least : (e : ℕ) → Member (a + b) e → opening r ≤ e
        least e m = by e (in_one a b e h m)

joined : (side : Side) (a b : ℕ) (l r : Filled) → Apart a b → Two l r → Known a l → Known b r → Known (a + b) (match side l r)
unfolding champion pick
joined side a b l r h w p q = record {
  sized =
      let e : 2 ^ rounds_of l ≡ 2 ^ rounds_of r = ap (λ (x : ℕ). 2 ^ x) w.level in
      let d : 2 ^ suc (rounds_of l) ≡ 2 * 2 ^ rounds_of l = omega arith in
      ones_sum a b h ∙ omega (arith, p.sized, q.sized, d);
  low = (in_first a b (opening l) h p.low.0, λ e m. by e (in_one a b e h m));
  won = go side;
}
  where
    by : (e : ℕ) → Member a e ⊎ Member b e → opening l ≤ e
    by e (inl m) = p.low.1 e m
    by e (inr m) = let z = q.low.1 e m in let y = w.opens in omega arith

    go : (u : Side) → Member (a + b) (pick u (champion l) (champion r))
    go first = in_first a b (champion l) h p.won
    go second = in_second a b (champion r) h q.won

halves_of : (side : Side) (l r : Filled) (s : ℕ) (h : On s (match side l r)) → Known h.halved.a l → Known h.halved.b r → Two l r
halves_of side l r s h p q =
    let z = h.halved in
    let Q : ℕ → Type 0 = λ x. (e : ℕ) → Lowest x e → Member z.a e in
    two z.a z.b l r z.apart z.equal (subst Q (sym z.sum) h.lowest_first) p q

pub known : (t : Filled) (s : ℕ) → On s t → Known s t
unfolding champion
known (sole e) s h =
    let P : ℕ → Type 0 = λ x. Known x (sole e) in
    subst P (sym h) (record { sized = ones_pow e; low = one_low e; won = (one_low e).0 })
known (match side l r) s h =
    let z = h.halved in
    let P : ℕ → Type 0 = λ x. Known x (match side l r) in
    let p = known l z.a z.on_first in
    let q = known r z.b z.on_second in
    subst P z.sum (joined side z.a z.b l r z.apart (halves_of side l r s h p q) p q)

pub halves_known : (side : Side) (l r : Filled) (s : ℕ) → On s (match side l r) → Two l r
halves_known side l r s h =
    let z = h.halved in
    halves_of side l r s h (known l z.a z.on_first) (known r z.b z.on_second)

pub champion_below : (n s : ℕ) (t : Filled) → On s t → s < 2 ^ n → champion t < n
champion_below n s t h l = member_lt n s (champion t) l (bit_true s (champion t) (known t s h).won)

-- two brackets with the lower opening first, on sets that share nobody, make one
pub on_both : (side : Side) (l r : Filled) (a b : ℕ) → Apart a b → rounds_of l ≡ rounds_of r → opening l < opening r → On a l → On b r → On (a + b) (match side l r)
on_both side l r a b h level opens p q =
    let u = known l a p in
    let v = known r b q in
    record {
      halved = record {
        a = a;
        b = b;
        sum = refl;
        apart = h;
        equal = u.sized ∙ ap (λ (x : ℕ). 2 ^ x) level ∙ sym v.sized;
        on_first = p;
        on_second = q;
      };
      lowest_first = λ e m. by u v e m (in_one a b e h m.0);
    }
  where
    by : Known a l → Known b r → (e : ℕ) → Lowest (a + b) e → Member a e ⊎ Member b e → Member a e
    by u v e m (inl i) = i
    by u v e m (inr i) =
        let x = v.low.1 e i in
        let y = m.1 (opening l) (in_first a b (opening l) h u.low.0) in
        absurd (omega arith)
