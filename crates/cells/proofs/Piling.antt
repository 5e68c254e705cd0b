-- Sums of all members at once. Assumes nothing.
use Rattle.std.proofs.Common.{◌≡◌, ℕ, zero, suc, ◌-◌, ◌<◌, ◌≤◌, true, false, ◌⊎◌, List, [], ◌∷◌, ◌++◌, map, length, get_or, set, replicate, sym, refl, ap, ◌∙◌, subst, ap₂, inl, inr, arith, get_or-set_other, get_or-set_same}
use lib.Seq.{map-set}
use Rattle.std.proofs.lemmas.List.{length-map}
use Rattle.std.proofs.lemmas.Bool.{cond-true, cond-false, and_parts}
use Rattle.algebra.specs.Semirings.{Semiring, LawfulSemiring}
use Rattle.figures.specs.Sums.{over}
use Rattle.figures.specs.Fields.{Field}
use Rattle.figures.specs.Sets.{has, half, halves}
use Rattle.figures.specs.Lists.{In}
use Rattle.figures.proofs.Lists.{in_left, in_right, in_either}
use Rattle.figures.proofs.Bits.{part_le, half_parts}
use Rattle.cells.specs.Standing.{holding}
use Rattle.cells.specs.Walks.{ahead}
use Rattle.cells.specs.Splits.{of_size, by_halves_with, lost_to, won, won_of_split}
use Rattle.cells.proofs.Splitting.{taken_out, splits}
use Rattle.cells.proofs.Adding.{none_off, one_off, all_off}

module _ {M : Type 0} (A : Semiring M) where
  -- what the value at an index means
  abbrev pub at : {V : Type 0} → (V → M) → List V → ℕ → M
  at means xs w = get_or (map means xs) w A.nothing

  -- those who are done have more by f, and the others have what they had
  pub record Piled {V : Type 0} (means : V → M) (f : ℕ → M) (done : List ℕ) (xs ys : List V) : Type 0 where
    pub more : (w : ℕ) → In w done → at means ys w ≡ A.plus (at means xs w) (f w)
    pub same : (w : ℕ) → (In w done → ⊥) → at means ys w ≡ at means xs w

module _ {V M : Type 0} (A : Semiring M) (means : V → M) (f : ℕ → M) (xs : List V) where
  -- one more value written
  pub piled_more : (done : List ℕ) (t : ℕ) (v : V) (ys : List V) → (In t done → ⊥) → t < length ys → Piled A means f done xs ys
      → means v ≡ A.plus (at A means ys t) (f t) → Piled A means f (done ++ t ∷ []) xs (set ys t v)
  piled_more done t v ys new l p e = record {
    more = λ w h. first w (in_either w done (t ∷ []) h);
    same = λ w h. other w (λ q. h (in_right w done (t ∷ []) (inl q))) ∙ p.same w (λ i. h (in_left w done (t ∷ []) i));
  }
    where
      other : (w : ℕ) → (w ≡ t → ⊥) → at A means (set ys t v) w ≡ at A means ys w
      other w q = ap (λ ts. get_or ts w A.nothing) (map-set means ys t v) ∙ get_or-set_other (map means ys) t w (means v) A.nothing q

      here : at A means (set ys t v) t ≡ means v
      here = ap (λ ts. get_or ts t A.nothing) (map-set means ys t v) ∙ get_or-set_same (map means ys) t (means v) A.nothing (omega (arith, length-map ys means))

      first : (w : ℕ) → In w done ⊎ In w (t ∷ []) → at A means (set ys t v) w ≡ A.plus (at A means xs w) (f w)
      first w (inl h) = other w (λ q. new (subst (λ (x : ℕ). In x done) q h)) ∙ p.more w h
      first w (inr (inl q)) =
          ap (at A means (set ys t v)) q ∙ here ∙ e ∙ ap (λ x. A.plus x (f t)) (p.same t new) ∙ ap (λ (i : ℕ). A.plus (at A means xs i) (f i)) (sym q)
      first w (inr (inr h)) = absurd h

-- what w has from a half that holds him, from one that does not, and of a split
module _ {M : Type 0} (A : Semiring M) (L : LawfulSemiring A) (weight : ℕ → ℕ → M) (n : ℕ) (f : ℕ → ℕ → M) where
  pub won_in : (a rest w : ℕ) → true ≡ has a w → A.times (f a w) (lost_to A weight n f rest w) ≡ won A weight n f a rest w
  unfolding won
  won_in a rest w h = taken_out A L weight n f a rest w ∙ sym (cond-true (has a w) _ _ (sym h))

  pub won_out : (a rest w : ℕ) → false ≡ has a w → won A weight n f a rest w ≡ A.nothing
  unfolding won
  won_out a rest w h = cond-false (has a w) _ _ (sym h)

  pub won_of_his_side : (a rest w : ℕ) → true ≡ has a w → won A weight n f a rest w ≡ won_of_split A weight n f a rest w
  unfolding won_of_split
  won_of_his_side a rest w h = sym (cond-true (has a w) _ _ (sym h))

  pub won_of_other_side : (a rest w : ℕ) → false ≡ has a w → won A weight n f rest a w ≡ won_of_split A weight n f a rest w
  unfolding won_of_split
  won_of_other_side a rest w h = sym (cond-false (has a w) _ _ (sym h))

-- ---- the sums as the splits are worked off

module _ {V M : Type 0} (A : Semiring M) (means : V → M) where
  pub all_nothing : (k w : ℕ) (v : V) → means v ≡ A.nothing → at A means (replicate k v) w ≡ A.nothing
  all_nothing zero w v e = refl
  all_nothing (suc k) zero v e = e
  all_nothing (suc k) (suc w) v e = all_nothing k w v e

module _ {M : Type 0} (A : Semiring M) (weight : ℕ → ℕ → M) (n : ℕ) (f : ℕ → ℕ → M) (s : ℕ) where
  -- the value of each member, with what is ahead, is what all splits give
  abbrev pub Along : {V : Type 0} → (V → M) → List V → List ℕ → Type 0
  Along means sums left = (w : ℕ) → has s w ≡ true → A.plus (at A means sums w) (over A left (λ a. won_of_split A weight n f a (s - a) w)) ≡ by_halves_with A weight n f s w

module _ {V M : Type 0} (A : Semiring M) (L : LawfulSemiring A) (means : V → M) (weight : ℕ → ℕ → M) (n : ℕ) (f : ℕ → ℕ → M) (s : ℕ) where
  pub along_none : (o : ℕ) (v : V) (left : List ℕ) → ((w : ℕ) → has s w ≡ true → has s o ≡ true) → means v ≡ A.nothing → left ≡ halves (of_size n) s o → Along A weight n f s means (replicate 16 v) left
  along_none o v left h e q w k =
      none_off A L (at A means (replicate 16 v) w) left (halves (of_size n) s o) _ (all_nothing A means 16 w v e) q ∙ splits A L weight n f s o w (h w k) k

  pub along_more : (a rest : ℕ) (done : List ℕ) (xs zs : List V) (left more : List ℕ) → ((w : ℕ) → has s w ≡ true → In w done) → rest ≡ s - a → left ≡ a ∷ more
      → Along A weight n f s means xs left → Piled A means (won_of_split A weight n f a rest) done xs zs → Along A weight n f s means zs more
  along_more a rest done xs zs left more every r e h p w l =
      one_off A L (at A means xs w) (at A means zs w) a left more _ e
      (p.more w (every w l) ∙ ap (λ (x : ℕ). A.plus (at A means xs w) (won_of_split A weight n f a x w)) r)
      ∙ h w l

  pub along_all : (xs : List V) (left : List ℕ) → left ≡ [] → Along A weight n f s means xs left → (w : ℕ) → has s w ≡ true → at A means xs w ≡ by_halves_with A weight n f s w
  along_all xs left e h w l = sym (all_off A L (at A means xs w) left _ e) ∙ h w l

-- ---- the walk, told of the set and the entrant that it is of

-- a half is at most the set
pub at_most : (z s o a : ℕ) → z ≡ s → holding z o a ≡ true → a ≤ s
at_most z s o a e h = omega (arith, part_le a z (half_parts z a (and_parts (half z a) (has a o) h).0).0, e)

-- the first of what is ahead, and what then is
pub next_at : (g : Field) (z s o e p q a : ℕ) → z ≡ s → o ≡ e → ahead g z o p ≡ a ∷ ahead g z o q → ahead g s e p ≡ a ∷ ahead g s e q
next_at g z s o e p q a i j h =
    sym (ap₂ (λ (x y : ℕ). ahead g x y p) i j) ∙ h ∙ ap₂ (λ (x y : ℕ). a ∷ ahead g x y q) i j

-- nothing is ahead
pub none_at : (g : Field) (z s o e p : ℕ) → z ≡ s → o ≡ e → ahead g z o p ≡ [] → ahead g s e p ≡ []
none_at g z s o e p i j h = sym (ap₂ (λ (x y : ℕ). ahead g x y p) i j) ∙ h
