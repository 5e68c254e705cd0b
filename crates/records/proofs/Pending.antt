-- The places of the parts still to come. Assumes nothing.
use Rattle.std.proofs.Common.{◌≡◌, ℕ, zero, suc, ◌+◌, ◌-◌, ◌*◌, ◌^◌, ◌<◌, ◌≤◌, List, [], ◌∷◌, ◌++◌, length, get_or, take, drop, sym, ap, ap₂, append_assoc, arith, length-append, take_all}
use Rattle.figures.proofs.Rounds.{below_pow}
use Rattle.records.specs.Places.{places}
use Rattle.records.proofs.Behind.{length_places}

-- the places of the parts to come, by the rounds of each
abbrev pub pending : List ℕ → List ℕ
pending [] = []
pending (k ∷ ks) = places k ++ pending ks

-- a part of k rounds with d parts behind it: k + d is at most that of the whole
abbrev pub Under : ℕ → List ℕ → Type 0
Under most [] = Unit {0}
Under most (k ∷ ks) = (k + length ks ≤ most) × Under most ks

pub under_halves : (most j : ℕ) (ks : List ℕ) → Under most (suc j ∷ ks) → Under most (j ∷ j ∷ ks)
under_halves most j ks h = (omega (arith, h.0), (omega (arith, h.0), h.1))

-- ---- the words that a slice pattern leaves behind the first

abbrev pub after_first : List ℕ → List ℕ
after_first R = take (length R - 1) (drop 1 R)

after_first_is : (w : ℕ) (ws : List ℕ) → after_first (w ∷ ws) ≡ ws
after_first_is w ws = take_all (length (w ∷ ws) - 1) ws (omega arith)

pub front_is : (R : List ℕ) → 0 < length R → R ≡ get_or R 0 0 ∷ after_first R
front_is [] h = absurd (omega (arith, h))
front_is (w ∷ ws) h = ap (λ zs. w ∷ zs) (sym (after_first_is w ws))

-- ---- one word at its place: R are the words to come, and T the parts behind the first

module _ (R T : List ℕ) (some : 0 < length R) where
  -- behind a match come two parts
  pub halves : {X : Type 0} (F : List ℕ → List ℕ → X) (j : ℕ)
      → F (pending (suc j ∷ T)) R ≡ F (suc j ∷ pending (j ∷ j ∷ T)) (get_or R 0 0 ∷ after_first R)
  halves F j =
      ap₂ (λ ks ws. F (suc j ∷ ks) ws) (append_assoc (places j) (places j) (pending T)) (front_is R some)

  pub left_match : (j : ℕ) → length R ≡ length (pending (suc j ∷ T)) → length (after_first R) ≡ length (pending (j ∷ j ∷ T))
  left_match j left = omega (arith, left, ap length (front_is R some), halves (λ ks ws. length ks) j)

  -- behind a match there are the words of both halves
  pub enough : (k : ℕ) → 0 < k → length R ≡ length (pending (k ∷ T)) → 2 ^ k - 1 + k ≤ length (after_first R)
  enough zero h left = absurd (omega arith)
  enough (suc j) h left =
      let d : 2 ^ suc j ≡ 2 * 2 ^ j = omega arith in
      omega (
        arith,
        d,
        below_pow (suc j),
        left_match j left,
        length-append (places j) (places j ++ pending T),
        length-append (places j) (pending T),
        length_places j,
      )
