-- Which entrants the line of those who can win lists, and how it grows.
use Rattle.std.proofs.Common.{◌≡◌, ℕ, zero, suc, ◌+◌, ◌-◌, min, Bool, true, false, cond, nat_lt, List, [], ◌∷◌, ◌++◌, codes, filter, map-id, Bor, take, Option, None, sym, refl, ap, ◌∙◌, append_assoc, append-nil, arith}
use Rattle.std.specs.Fn.{CalledAt}
use Rattle.std.specs.Iterator.{Yields, YieldsFirst}
use Rattle.std.specs.Iterator.Adapters.{take_while_steps}
use Rattle.std.specs.declared.iter.TakeWhile.{TakeWhile}
use Rattle.std.proofs.lemmas.Iterator.Consumers.{YieldsList-from_first, YieldsList-end}
use Rattle.std.proofs.lemmas.Iterator.Search.{YieldsList-from_take_while}
use denote.Param.Members.{Mut}
use Rattle.figures.specs.declared.sets.Members.{Members}
use Rattle.figures.specs.Sets.{has, all_members}
use Rattle.std.specs.List.{range_with_len, prefix_len}
use Rattle.std.proofs.lemmas.Bool.{ltb-true, ltb-false}
use Rattle.texts.specs.Numbers.{decimal}
use Rattle.reports.specs.Winners.{spaced}

-- one more number stands at the end
pub spaced_last : (es : List ℕ) (e : ℕ) → spaced (es ++ (e ∷ [])) ≡ spaced es ++ (codes " " ++ decimal e)
spaced_last [] e = append-nil (codes " " ++ decimal e)
spaced_last (x ∷ es) e = ap (λ t. (codes " " ++ decimal x) ++ t) (spaced_last es e) ∙ sym (append_assoc (codes " " ++ decimal x) (spaced es) (codes " " ++ decimal e))

abbrev passing : (ℕ → Bool) → ℕ → ℕ → List ℕ
passing p a k = filter p (range_with_len a k)

abbrev below : ℕ → List ℕ → List ℕ
below n es = take (prefix_len (λ e. nat_lt e n) es) es

-- what passes the test among the k numbers from a on, up to the first that is not below n
pub passing_below : (p : ℕ → Bool) (n k a : ℕ) → below n (passing p a k) ≡ passing p a (min (n - a) k)
passing_below p n zero a =
    let none : 0 ≡ min (n - a) 0 = omega arith in
    ap (passing p a) none
passing_below p n (suc k) a = go (p a) refl (nat_lt a n) refl (passing_below p n k (a + 1))
  where
    go : (passes : Bool) → p a ≡ passes → (inside : Bool) → nat_lt a n ≡ inside → below n (passing p (a + 1) k) ≡ passing p (a + 1) (min (n - (a + 1)) k)
        → below n (cond passes (a ∷ passing p (a + 1) k) (passing p (a + 1) k)) ≡ passing p a (min (n - a) (suc k))
    go true e true f rest =
        let more : min (n - a) (suc k) ≡ suc (min (n - (a + 1)) k) = omega (arith, ltb-true a n f) in
        let one : 1 + prefix_len (λ x. nat_lt x n) (passing p (a + 1) k) ≡ suc (prefix_len (λ x. nat_lt x n) (passing p (a + 1) k)) = omega arith in
        rw (more, e, f, one) (ap (λ es. a ∷ es) rest)
    go false e true f rest =
        let more : min (n - a) (suc k) ≡ suc (min (n - (a + 1)) k) = omega (arith, ltb-true a n f) in
        rw (more, e) rest
    go true e false f rest =
        let none : min (n - a) (suc k) ≡ 0 = omega (arith, ltb-false a n f) in
        rw (none, f) refl
    go false e false f rest =
        let none : min (n - a) (suc k) ≡ 0 = omega (arith, ltb-false a n f) in
        let nobody : min (n - (a + 1)) k ≡ 0 = omega (arith, ltb-false a n f) in
        rest ∙ rw (none, nobody) refl

-- what a loop over the members of a set up to n was given, once it has ended
pub walked : {F : Type 0} {g : Mut F (Bor ℕ × Unit {0}) Bool} {r : Option ℕ} (s t u : TakeWhile Members F) (xs : List ℕ)
    → Yields (take_while_steps (YieldsFirst (λ (m : Members). all_members m.left)) g) s xs t → r ≡ None
    → take_while_steps (YieldsFirst (λ (m : Members). all_members m.left)) g t r u
    → (winners n : ℕ) (f : F) → all_members s.iter.left ≡ all_members winners → s.p ≡ f → s.done ≡ false
    → ((e : ℕ) (b : Bool) (q : F) → CalledAt g f e b q → (q ≡ f) × (b ≡ nat_lt e n)) → xs ≡ filter (has winners) (range_with_len 0 (min n 32))
unfolding all_members
walked {g = g} {r = r} s t u xs told none ended winners n f source callee open_yet tells =
    let members = YieldsList-from_first (λ e. e) (λ (m : Members). all_members m.left) (all_members winners) source in
    let walk = YieldsList-from_take_while g (λ e. nat_lt e n) members callee open_yet tells in
    let from_first : n - 0 ≡ n = omega arith in
    sym (map-id xs) ∙ (YieldsList-end walk xs t told r u none ended).0 ∙ passing_below (has winners) n 32 0
    ∙ ap (λ (m : ℕ). filter (has winners) (range_with_len 0 (min m 32))) from_first
