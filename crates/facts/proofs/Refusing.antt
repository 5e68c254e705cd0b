-- What comes of a call, once it is known whether it is refused. Assumes nothing.
use Rattle.std.proofs.Common.{◌≡◌, ℕ, ◌<◌, ◌≤◌, true, Some, None, Ok, Err, Option, Result, sym, refl, ap, subst, arith}
use Rattle.std.proofs.lemmas.Bool.Decides.{nat_tests}
use Rattle.facts.specs.declared.refusals.Refusal.{Refusal}
use Rattle.facts.specs.declared.refused.Refused.{Refused}
use Rattle.facts.specs.Fields.{legal}
use Rattle.facts.specs.Outcomes.{decided, Answered, HandedOn, Changed}

-- a legal size is some number of entrants, sixteen at most
pub legal_some : (n : ℕ) → legal n ≡ true → (0 < n) × (n ≤ 16)
legal_some n h = (grind (arith, nat_tests), grind (arith, nat_tests))

module _ {X : Type 0} (does : X → X → Type 0) (before after : X) (o : Option Refusal) where
  pub changed_so : o ≡ None → does before after → Changed o does before after
  changed_so e d = subst (λ p. Changed p does before after) (sym e) d

  pub changed_not : (refusal : Refusal) → o ≡ Some refusal → after ≡ before → Changed o does before after
  changed_not refusal e d = subst (λ p. Changed p does before after) (sym e) d

  pub changed_back : (refusal : Refusal) → o ≡ Some refusal → Changed o does before after → after ≡ before
  changed_back refusal e d = subst (λ p. Changed p does before after) e d

  pub changed_then : o ≡ None → Changed o does before after → does before after
  changed_then e d = subst (λ p. Changed p does before after) e d

module _ {X : Type 0} (good : X → Type 0) (o : Option Refusal) where
  pub answered_so : (x : X) → o ≡ None → good x → Answered o good (Ok x)
  answered_so x e d = subst (λ p. Answered p good (Ok x)) (sym e) d

  pub answered_not : (refusal : Refusal) → o ≡ Some refusal → Answered o good (Err refusal)
  answered_not refusal e = subst (λ p. Answered p good (Err refusal)) (sym e) refl

module _ {X Y : Type 0} (good : X → Type 0) (moved : Y) (o : Option Refusal) where
  pub handed_so : (x : X) → o ≡ None → good x → HandedOn o good moved (Ok x)
  handed_so x e d = subst (λ p. HandedOn p good moved (Ok x)) (sym e) d

-- an answer that is no refusal is a good one, and nothing refused the call; else that refusal did
pub answered_then : {X : Type 0} (good : X → Type 0) (o : Option Refusal) (x : X) → Answered o good (Ok x) → (o ≡ None) × good x
answered_then good None x d = (refl, d)
answered_then good (Some e) x d = absurd d

pub answered_back : {X : Type 0} (good : X → Type 0) (o : Option Refusal) (e : Refusal) → Answered o good (Err e) → o ≡ Some e
answered_back good None e d = absurd d
answered_back good (Some refusal) e d = ap {B = Option Refusal} (λ (r : Refusal). Some r) (sym d)

pub handed_then : {X Y : Type 0} (good : X → Type 0) (moved : Y) (o : Option Refusal) (x : X) → HandedOn o good moved (Ok x) → (o ≡ None) × good x
handed_then good moved None x d = (refl, d)
handed_then good moved (Some e) x d = absurd d

pub handed_back : {X Y : Type 0} (good : X → Type 0) (moved : Y) (o : Option Refusal) (e : Refused Y) → HandedOn o good moved (Err e) → o ≡ Some e.refusal
handed_back good moved None e d = absurd d
handed_back good moved (Some refusal) e d = ap {B = Option Refusal} (λ (r : Refusal). Some r) (sym d.1)

-- what was not refused met no refusal
pub passed : (o : Option Refusal) → ◌≡◌ {A = Result (Unit {0}) Refusal} (Ok tt) (decided o) → ◌≡◌ {A = Option Refusal} None o
passed None e = refl
passed (Some refusal) e = absurd (cc)

-- a call is not both refused and not refused
pub not_both : (o : Option Refusal) (e : Refusal) → o ≡ None → o ≡ Some e → ⊥
not_both o e p q = cc

-- the refusal of a call that is handed on
pub answered_err : {X : Type 0} (good : X → Type 0) (o : Option Refusal) (r : Result X Refusal) (y e : Refusal) → r ≡ Err y → y ≡ e → o ≡ Some e → Answered o good r
answered_err good o r y e p q h = subst (λ x. Answered o good x) (sym p) (subst (λ x. Answered o good (Err x)) (sym q) (answered_not good o e h))
