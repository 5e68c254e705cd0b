-- What a stage knows of its size. Assumes nothing.
use Rattle.std.proofs.Common.{◌≡◌, ℕ, ◌+◌, ◌^◌, ◌<◌, ◌≤◌, true, false, not, eqb, ◌⊎◌, Some, None, Option, Result, sym, refl, ap, ◌∙◌, subst, inl, inr, arith, pow_mono}
use lib.Count.{count_trailing_zeros}
use Rattle.std.specs.Result.{is_ok}
use Rattle.std.proofs.lemmas.Bool.{cases_lt, eq-eqb, cond-false}
use Rattle.facts.specs.declared.refusals.Refusal.{Refusal}
use Rattle.facts.specs.declared.sizes.FieldSize.{FieldSize}
use Rattle.facts.specs.Outcomes.{decided}
use Rattle.facts.proofs.Refusing.{legal_some}
use Rattle.cells.specs.Rooms.{needed, refresh_refusal}
use Rattle.cells.proofs.Fitting.{rounds_make, unrefused}
use Rattle.table.specs.Refusing.{fill_refusal}

-- a field has some entrants, and sixteen at most
pub some : (s : FieldSize) → 0 < s.entrants
some s = (legal_some s.entrants s.legal).0

pub few : (s : FieldSize) → s.entrants ≤ 16
few s = (legal_some s.entrants s.legal).1

-- what was let through, nothing refused
pub let_through : (o : Option Refusal) (r : Result (Unit {0}) Refusal) → r ≡ decided o → true ≡ is_ok r → None ≡ o
let_through None r e h = refl
let_through (Some refusal) r e h = let z : true ≡ false = h ∙ ap is_ok e in cc

-- a level of no more entrants than the field has is the fourth at most
pub level_low : (s : FieldSize) (level : ℕ) → 2 ^ level ≤ s.entrants → level ≤ 4
level_low s level h = go (cases_lt 4 level)
  where
    go : (4 < level) ⊎ (level ≤ 4) → level ≤ 4
    go (inl k) = let j : 5 ≤ level = omega arith in let p : 2 ^ 5 ≤ 2 ^ level = pow_mono j in absurd (omega (arith, few s))
    go (inr k) = k

-- a level that is not the last has one above it
pub level_above : (s : FieldSize) (level : ℕ) → 2 ^ level < s.entrants → 2 ^ (level + 1) ≤ s.entrants
level_above s level h = go (cases_lt level rounds)
  where
    rounds : ℕ
    rounds = count_trailing_zeros 64 s.entrants

    go : (level < rounds) ⊎ (rounds ≤ level) → 2 ^ (level + 1) ≤ s.entrants
    go (inl k) = let p : 2 ^ (level + 1) ≤ 2 ^ rounds = pow_mono (omega arith) in omega (arith, rounds_make s.entrants s.legal)
    go (inr k) = let p : 2 ^ rounds ≤ 2 ^ level = pow_mono k in absurd (omega (arith, rounds_make s.entrants s.legal))

-- where the refresh of a level was let through, the cells fit, and there is a level above
pub let_on : (s : FieldSize) (n count level : ℕ) (r : Result (Unit {0}) Refusal) → n ≡ s.entrants → r ≡ decided (refresh_refusal n count level) → true ≡ is_ok r
    → (needed s.entrants ≤ count) × (2 ^ (level + 1) ≤ s.entrants)
let_on s n count level r same e ok =
    let p = unrefused n count level (let_through (refresh_refusal n count level) r e ok) in
    (subst (λ (k : ℕ). needed k ≤ count) same p.0, level_above s level (omega (arith, p.1)))

-- where stage and source are of one size, a fill is refused as the refresh of its level is
pub fill_as_refresh : (n size level count : ℕ) → size ≡ n → fill_refusal n level size count ≡ refresh_refusal size count level
fill_as_refresh n size level count e =
    cond-false (not (eqb n size)) _ _ (ap not (eq-eqb n size (sym e))) ∙ ap (λ (m : ℕ). refresh_refusal m count level) (sym e)
