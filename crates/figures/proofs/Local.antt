-- A figure takes from the field only its size and the pairings of two members of the set. Assumes nothing.
use Rattle.std.proofs.Common.{◌≡◌, ℕ, zero, suc, ◌-◌, Bool, cond, eqb, List, [], ◌∷◌, map, get_or, filter, sym, refl, ap, ◌∙◌, ap₂}
use lib.Count.{ones}
use Rattle.std.specs.List.{range_with_len}
use Rattle.algebra.specs.Semirings.{Semiring}
use Rattle.figures.specs.Lists.{In, gather}
use Rattle.figures.specs.Sums.{over}
use Rattle.figures.specs.Fields.{Field}
use Rattle.figures.specs.Sets.{has, Member, members, lowest, halves}
use Rattle.figures.specs.Brackets.{Side, first, second, Filled, sole, match, pick, champion, rounds, listed_in, listed}
use Rattle.figures.specs.Figures.{worth, figure}
use Rattle.figures.specs.Theorems.{PairingsWithin, OnePairing}
use Rattle.figures.proofs.Lists.{kept_in, gather_same}
use Rattle.figures.proofs.Sums.{over_same_in}
use Rattle.figures.proofs.Champions.{made, single, halves_in, champion_within}
use Rattle.figures.proofs.Bits.{Part, half_parts, part_sub, has_part}

-- ---- the list takes only the size

module _ (f g : Field) (same : f.size ≡ g.size) where
  members_same : (s : ℕ) → members f s ≡ members g s
  unfolding members
  members_same s = ap (λ (n : ℕ). filter (has s) (range_with_len 0 n)) same

  halves_same : (s : ℕ) → halves f s (lowest f s) ≡ halves g s (lowest g s)
  unfolding halves lowest
  halves_same s = ap (λ ms. halves g s (get_or ms 0 0)) (members_same s)

  pub listed_same : (k s : ℕ) → listed_in f k s ≡ listed_in g k s
  unfolding listed_in
  listed_same zero s = ap (λ ms. cond (eqb (ones s) 1) (map sole ms) []) (members_same s)
  listed_same (suc k) s =
      let pairs : List Filled → List Filled → List Filled = λ ls rs.
      gather ls λ l.
      gather rs λ r.
      match first l r ∷ match second l r ∷ []
      in
      ap (λ hs. gather hs (λ a. pairs (listed_in f k a) (listed_in f k (s - a)))) (halves_same s)
      ∙ gather_same (halves g s (lowest g s)) (λ a. pairs (listed_in f k a) (listed_in f k (s - a))) (λ a. pairs (listed_in g k a) (listed_in g k (s - a)))
      (λ a. ap₂ pairs (listed_same k a) (listed_same k (s - a)))

-- ---- the worth takes only the pairings within

module _ {M : Type 0} (A : Semiring M) (f g : Field) where
  -- the two agree on the pairings of two members of s
  abbrev Agree : ℕ → Type 0
  Agree s = (x y : ℕ) → Member s x → Member s y → f.beats x y ≡ g.beats x y

  agree_part : (s a : ℕ) → Part a s → Agree s → Agree a
  agree_part s a p h x y m n = h x y (has_part s a x p m) (has_part s a y p n)

  pub worth_same : (k s : ℕ) → Agree s → (t : Filled) → In t (listed_in f k s) → worth A f t ≡ worth A g t
  unfolding worth pick
  worth_same zero s h t i =
      let p = single f s t i in
      rw p.3 refl
  worth_same (suc k) s h t i =
      let m = made f k s t i in
      let c = m.one_half in
      let p = (half_parts s c (halves_in f s (lowest f s) c m.chosen).0).0 in
      let q = part_sub c s p in
      let x = has_part s c (champion m.left) p (champion_within f k c m.left m.left_in).0 in
      let y = has_part s (s - c) (champion m.right) q (champion_within f k (s - c) m.right m.right_in).0 in
      ap (worth A f) m.is
      ∙ go m.left m.right x y
      (worth_same k c (agree_part s c p h) m.left m.left_in)
      (worth_same k (s - c) (agree_part s (s - c) q h) m.right m.right_in)
      m.side
      ∙ sym (ap (worth A g) m.is)
    where
      go : (l r : Filled) → Member s (champion l) → Member s (champion r) → worth A f l ≡ worth A g l → worth A f r ≡ worth A g r
          → (side : Side) → worth A f (match side l r) ≡ worth A g (match side l r)
      go l r x y d e first = ap₂ A.times (ap₂ A.times d e) (ap A.weight (h (champion l) (champion r) x y))
      go l r x y d e second = ap₂ A.times (ap₂ A.times d e) (ap A.weight (h (champion r) (champion l) y x))

pub pairings_within : {M : Type 0} (A : Semiring M) → PairingsWithin A
unfolding figure listed
pairings_within A f g s same h w =
    let p : Filled → Bool = λ t. eqb (champion t) w in
    over_same_in A (filter p (listed f s)) (worth A f) (worth A g)
    (λ t i. worth_same A f g (rounds (ones s)) s h t (kept_in p t (listed f s) i).0)
    ∙ ap (λ ts. over A (filter p ts) (worth A g)) (listed_same f g same (rounds (ones s)) s)

pub one_pairing : {M : Type 0} (A : Semiring M) → OnePairing A
one_pairing A f g a b same h s w apart =
    pairings_within A f g s same (λ x y p q. h x y (λ e. apart (rw e.0 at p, rw e.1 at q)) (λ e. apart (rw e.1 at q, rw e.0 at p))) w
