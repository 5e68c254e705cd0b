-- A grid of weights that is filled pairing by pairing. Assumes nothing.
use Rattle.std.proofs.Common.{◌≡◌, ℕ, ◌+◌, ◌*◌, ◌<◌, ◌≤◌, min, max, false, ◌⊎◌, List, map, length, get_or, set, sym, ap, ◌∙◌, inl, inr, arith, length-set, get_or-set_other, get_or-set_same}
use lib.ListN.{length-map}
use lib.Seq.{map-set}
use Rattle.std.proofs.lemmas.Bool.{cases_eq}
use Rattle.std.proofs.lemmas.Bool.Decides.{nat_tests}
use Rattle.algebra.specs.Semirings.{Semiring, LawfulSemiring}
use Rattle.facts.specs.Fields.{opponents}
use Rattle.facts.specs.Sheets.{Sheet, Lawful}
use Rattle.figures.specs.Fields.{Field}
use Rattle.cells.specs.Renewal.{weight_of}
use Rattle.cells.specs.Asking.{WeighedBelow}

-- nobody beats himself, and a win that nothing buys weighs nothing
not_opponents : (n a b : ℕ) → a ≡ b → opponents n a b ≡ false
not_opponents n a b e = grind (arith, nat_tests)

pub nobody_himself : {M : Type 0} (A : Semiring M) → LawfulSemiring A → (s : Sheet) → Lawful s → (a b : ℕ) → a ≡ b → A.nothing ≡ A.weight (s.beats a b)
nobody_himself A good s lawful a b e = sym (ap A.weight (lawful.never_outside a b (not_opponents s.size a b e)) ∙ good.weight_never)

-- a weight at its place, and those elsewhere
pub put_here : {V M : Type 0} (means : V → M) (d : M) (grid : List V) (p : ℕ) (v : V) → p < length grid → get_or (map means (set grid p v)) p d ≡ means v
put_here means d grid p v h = ap (λ xs. get_or xs p d) (map-set means grid p v) ∙ get_or-set_same (map means grid) p (means v) d (let e = length-map grid means in omega (arith, e))

pub put_elsewhere : {V M : Type 0} (means : V → M) (d : M) (grid : List V) (p q : ℕ) (v : V) → (q ≡ p → ⊥) → get_or (map means (set grid p v)) q d ≡ get_or (map means grid) q d
put_elsewhere means d grid p q v ne = ap (λ xs. get_or xs q d) (map-set means grid p v) ∙ get_or-set_other (map means grid) p q (means v) d ne

-- two entrants whose place is that of a and b are these two
same_two : (w l a b : ℕ) → w < 16 → l < 16 → a < 16 → b < 16 → a ≤ b → min w l * 16 + max w l ≡ a * 16 + b → ((w ≡ a) × (l ≡ b)) ⊎ ((w ≡ b) × (l ≡ a))
same_two w l a b p q r s o e = grind arith

module _ {V M : Type 0} (A : Semiring M) (means : V → M) (f : Field) where
  -- where the weights of a and b are put in as the sheet has them, one place more is right
  pub one_more : (grid : List V) (a b : ℕ) (x y : V) → f.size ≤ 16 → a ≤ b → b < f.size → 256 ≤ length grid
      → means x ≡ A.weight (f.beats a b) → means y ≡ A.weight (f.beats b a)
      → WeighedBelow A f (map means grid) (a * 16 + b) → WeighedBelow A f (map means (set (set grid (a * 16 + b) x) (b * 16 + a) y)) (a * 16 + (b + 1))
  unfolding weight_of
  one_more grid a b x y small o below long forth back before w l p q r = go (cases_eq (w * 16 + l) (b * 16 + a)) (cases_eq (w * 16 + l) (a * 16 + b))
    where
      go : (w * 16 + l ≡ b * 16 + a) ⊎ (w * 16 + l ≡ b * 16 + a → ⊥) → (w * 16 + l ≡ a * 16 + b) ⊎ (w * 16 + l ≡ a * 16 + b → ⊥)
          → get_or (map means (set (set grid (a * 16 + b) x) (b * 16 + a) y)) (w * 16 + l) A.nothing ≡ A.weight (f.beats w l)
      go (inl e) s =
          let is-w : w ≡ b = omega arith in
          let is-l : l ≡ a = omega arith in
          ap (λ i. get_or (map means (set (set grid (a * 16 + b) x) (b * 16 + a) y)) i A.nothing) e
          ∙ put_here means A.nothing (set grid (a * 16 + b) x) (b * 16 + a) y (simp length-set (omega arith)) ∙ back
          ∙ ap (λ i. A.weight (f.beats i a)) (sym is-w) ∙ ap (λ i. A.weight (f.beats w i)) (sym is-l)
      go (inr ne) (inl e) =
          let is-w : w ≡ a = omega arith in
          let is-l : l ≡ b = omega arith in
          put_elsewhere means A.nothing (set grid (a * 16 + b) x) (b * 16 + a) (w * 16 + l) y ne
          ∙ ap (λ i. get_or (map means (set grid (a * 16 + b) x)) i A.nothing) e
          ∙ put_here means A.nothing grid (a * 16 + b) x (omega arith) ∙ forth
          ∙ ap (λ i. A.weight (f.beats i b)) (sym is-w) ∙ ap (λ i. A.weight (f.beats w i)) (sym is-l)
      go (inr ne) (inr de) =
          put_elsewhere means A.nothing (set grid (a * 16 + b) x) (b * 16 + a) (w * 16 + l) y ne
          ∙ put_elsewhere means A.nothing grid (a * 16 + b) (w * 16 + l) x de
          ∙ before w l p q (rank (cases_eq (min w l * 16 + max w l) (a * 16 + b)))
        where
          rank : (min w l * 16 + max w l ≡ a * 16 + b) ⊎ (min w l * 16 + max w l ≡ a * 16 + b → ⊥) → min w l * 16 + max w l < a * 16 + b
          rank (inr far) = omega arith
          rank (inl same) = elim (same_two w l a b (omega arith) (omega arith) (omega arith) (omega arith) o same) [
            | inl t ↦ absurd (de (omega (arith, t.0, t.1)))
            | inr t ↦ absurd (ne (omega (arith, t.0, t.1)))
          ]

  -- nothing stands between the end of a row and the next diagonal
  pub next_row_lem : (grid : List V) (a : ℕ) → f.size ≤ 16 → WeighedBelow A f (map means grid) (a * 16 + f.size) → WeighedBelow A f (map means grid) ((a + 1) * 16 + (a + 1))
  next_row_lem grid a small before w l p q r = before w l p q (omega arith)
