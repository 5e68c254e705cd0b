-- Whether a refresh of a level is refused. Assumes nothing.
use Rattle.std.proofs.Common.{◌≡◌, ℕ, ◌+◌, ◌*◌, ◌^◌, ◌<◌, ◌≤◌, Bool, true, false, cond, not, ltb, ◌⊎◌, Some, None, Option, sym, refl, ap, ◌∙◌, subst, inl, inr, arith, pow_mono}
use lib.Count.{count_trailing_zeros}
use Rattle.std.proofs.lemmas.Bool.{ltb-true, ltb-false, lt-ltb, le-ltb, cond-true, cond-false, cases_eq, cases_lt}
use Rattle.std.proofs.lemmas.Bool.Decides.{nat_tests}
use Rattle.facts.specs.declared.refusals.Refusal.{Refusal}
use Rattle.facts.specs.declared.refusals.Refusal.TheVariants.{MemoryTooShort, LevelsAllFilled}
use Rattle.facts.specs.Fields.{legal}
use Rattle.facts.proofs.Refusing.{legal_some}
use Rattle.cells.specs.Rooms.{needed, room_refusal, refresh_refusal}

-- a memory that is not refused has room
pub roomy : (n count : ℕ) → None ≡ room_refusal n count → needed n ≤ count
roomy n count h = go (ltb count (needed n)) refl h
  where
    go : (a : Bool) → ltb count (needed n) ≡ a → ◌≡◌ {A = Option Refusal} None (cond a (Some MemoryTooShort) None) → needed n ≤ count
    go true e h = let z : ◌≡◌ {A = ℕ} 0 1 = cc in absurd (omega arith)
    go false e h = ltb-false count (needed n) e

module _ (n count level : ℕ) where
  -- no level is left
  pub none_left : needed n ≤ count → n ≤ 2 ^ level → Some LevelsAllFilled ≡ refresh_refusal n count level
  none_left room full =
      sym (cond-false (ltb count (needed n)) _ _ (le-ltb count (needed n) room)
      ∙ cond-true (not (ltb (2 ^ level) n)) _ _ (ap not (le-ltb (2 ^ level) n full)))

  -- there is room, and a level is left
  pub not_refused : needed n ≤ count → 2 ^ level < n → None ≡ refresh_refusal n count level
  not_refused room left =
      sym (cond-false (ltb count (needed n)) _ _ (le-ltb count (needed n) room)
      ∙ cond-false (not (ltb (2 ^ level) n)) _ _ (ap not (lt-ltb (2 ^ level) n left)))

  pub unrefused : None ≡ refresh_refusal n count level → (needed n ≤ count) × (2 ^ level < n)
  unrefused h = go (ltb count (needed n)) refl (ltb (2 ^ level) n) refl h
    where
      go : (a : Bool) → ltb count (needed n) ≡ a → (b : Bool) → ltb (2 ^ level) n ≡ b
          → ◌≡◌ {A = Option Refusal} None (cond a (Some MemoryTooShort) (cond (not b) (Some LevelsAllFilled) None)) → (needed n ≤ count) × (2 ^ level < n)
      go true e b d h = let z : ◌≡◌ {A = ℕ} 0 1 = cc in absurd (omega arith)
      go false e true d h = (ltb-false count (needed n) e, ltb-true (2 ^ level) n d)
      go false e false d h = let z : ◌≡◌ {A = ℕ} 0 1 = cc in absurd (omega arith)

-- a legal size is two, as many times over as it has zeros at its end
pub rounds_make : (n : ℕ) → legal n ≡ true → 2 ^ count_trailing_zeros 64 n ≡ n
unfolding count_trailing_zeros
rounds_make n h = go (cases_eq n 2) (cases_eq n 4) (cases_eq n 8)
  where
    make : (m : ℕ) → n ≡ m → 2 ^ count_trailing_zeros 64 m ≡ m → 2 ^ count_trailing_zeros 64 n ≡ n
    make m e i = subst (λ x. 2 ^ count_trailing_zeros 64 x ≡ x) (sym e) i

    go : (n ≡ 2) ⊎ (n ≡ 2 → ⊥) → (n ≡ 4) ⊎ (n ≡ 4 → ⊥) → (n ≡ 8) ⊎ (n ≡ 8 → ⊥) → 2 ^ count_trailing_zeros 64 n ≡ n
    go (inl a) b c = make 2 a refl
    go (inr a) (inl b) c = make 4 b refl
    go (inr a) (inr b) (inl c) = make 8 c refl
    go (inr a) (inr b) (inr c) = make 16 (grind (arith, nat_tests)) refl

level_small : (n level : ℕ) → n ≤ 16 → 2 ^ level < n → level < 4
level_small n level few left = go (cases_lt level 4)
  where
    go : (level < 4) ⊎ (4 ≤ level) → level < 4
    go (inl h) = h
    go (inr h) = let p : 2 ^ 4 ≤ 2 ^ level = pow_mono h in absurd (omega arith)

-- what is known of n entrants, where nothing refuses a level
pub record Admitted (n count level : ℕ) : Type 0 where
  pub some : 0 < n
  pub few : n ≤ 16
  pub room : needed n ≤ count
  pub small : level < 4

pub admitted : (n count level : ℕ) → legal n ≡ true → refresh_refusal n count level ≡ None → Admitted n count level
admitted n count level l h =
    let p = legal_some n l in
    let q = unrefused n count level (sym h) in
    record { some = p.0; few = p.1; room = q.0; small = level_small n level p.1 q.1 }

-- the index of a cell, of a field whose size was asked for
pub index_is : (k n s w i : ℕ) → k ≡ n → legal n ≡ true → s < 2 ^ n → w < n → (k ≤ 16 → s < 2 ^ k → w < k → i ≡ s * k + w) → (k ≤ 16 → s < 2 ^ k → w < k → i < needed k)
    → (i ≡ s * n + w) × (i < needed n)
index_is k n s w i e h l u at within =
    let few = (legal_some n h).1 in
    (subst (λ x. x ≤ 16 → s < 2 ^ x → w < x → i ≡ s * x + w) e at few l u, subst (λ x. x ≤ 16 → s < 2 ^ x → w < x → i < needed x) e within few l u)
