-- Each of the three sources means a lawful sheet, and carries the pairings that it tells. Assumes nothing.
use Rattle.std.specs.Prelude.{◌≡◌, ℕ, Bool, true, false, cond, not, ◌&&◌, ◌||◌, List, length, Some, None, Option, ◌==◌, nat_lt, refl}
use Rattle.std.proofs.Common.{arith}
use Rattle.std.proofs.Math.Bool.{or_comm}
use Rattle.std.proofs.lemmas.Bool.{ltb-true, ltb-false, eqb-false, eq-eqb, ne_eqb, and_from, not_from_false}
use Rattle.facts.specs.Facts.{free, one_free}
use Rattle.facts.specs.Fields.{legal, opponents}
use Rattle.facts.specs.Sheets.{Lawful}
use Rattle.sources.specs.declared.matrix.Winner.{Winner}
use Rattle.sources.specs.declared.matrix.Winner.TheVariants.{Lower, Higher}
use Rattle.sources.specs.declared.order.Upset.{Upset}
use Rattle.sources.specs.declared.order.Upset.TheVariants.{Marked, Unmarked}
use Rattle.sources.specs.declared.pairing.Pairing.{Pairing}
use Rattle.sources.specs.Pairs.{allowed}
use Rattle.sources.specs.Matrices.{result, certain, matrix_sheet}
use Rattle.sources.specs.Orders.{standing, plain, ranked, order_sheet}
use Rattle.sources.specs.Bribery.{told, bribe_sheet}
use Rattle.sources.specs.Holding.{met, told_lawful, told_each}

pub certain_back : (f g : Option ℕ) → certain f g ≡ certain g f
certain_back None None = refl
certain_back None (Some q) = refl
certain_back (Some p) None = refl
certain_back (Some p) (Some q) = refl

pub one_wins : (winner : Winner) → allowed (result winner) ≡ true
one_wins Lower = refl
one_wins Higher = refl

pub matrix_lawful : (n : ℕ) (winners : List Winner) → length winners ≡ 256 → legal n ≡ true → Lawful (matrix_sheet n winners)
matrix_lawful n winners whole leg = told_lawful result (λ a b. certain) n winners whole leg one_wins (λ a b. certain_back)

pub ranked_back : (a b : ℕ) (f g : Option ℕ) → ranked a b f g ≡ ranked b a g f
ranked_back a b f g = go (a == b) (b == a) (nat_lt a b) (nat_lt b a) refl refl refl refl
  where
    go : (e e' s t : Bool) → (a == b) ≡ e → (b == a) ≡ e' → nat_lt a b ≡ s → nat_lt b a ≡ t
        → (not e && (free (cond {A = Option ℕ × Option ℕ} s (f, g) (g, f)).0 && plain (cond {A = Option ℕ × Option ℕ} s (f, g) (g, f)).1)) ≡ (not e' && (free (cond {A = Option ℕ × Option ℕ} t (g, f) (f, g)).0 && plain (cond {A = Option ℕ × Option ℕ} t (g, f) (f, g)).1))
    go e e' s t p p' q r = grind (arith, ltb-true, ltb-false, eqb-false, eq-eqb)

pub stronger_wins : (upset : Upset) → allowed (standing upset) ≡ true
stronger_wins Marked = refl
stronger_wins Unmarked = refl

pub order_lawful : (n : ℕ) (upsets : List Upset) → length upsets ≡ 256 → legal n ≡ true → Lawful (order_sheet n upsets)
order_lawful n upsets whole leg = told_lawful standing ranked n upsets whole leg stronger_wins ranked_back

pub or_back : (p q : Bool) → (p || q) ≡ (q || p)
or_back = or_comm

pub free_back : (f g : Option ℕ) → one_free f g ≡ one_free g f
free_back f g = or_back (free f) (free g)

pub bribes_lawful : (n : ℕ) (pairings : List Pairing) → length pairings ≡ 256 → legal n ≡ true → Lawful (bribe_sheet n pairings)
bribes_lawful n pairings whole leg = told_lawful told (λ a b. one_free) n pairings whole leg (λ p. p.fair) (λ a b. free_back)

-- each of the three carries what it tells
pub matrix_carries_own : (n : ℕ) (winners : List Winner) → length winners ≡ 256 → legal n ≡ true → (a b : ℕ) → opponents n a b ≡ true → certain ((matrix_sheet n winners).beats a b) ((matrix_sheet n winners).beats b a) ≡ true
matrix_carries_own n winners whole leg a b h = told_each result (λ a b. certain) n winners (λ f. certain f.0 f.1 ≡ true) a b whole leg h (λ x. go (nat_lt a b) x)
  where
    go : (t : Bool) (x : Winner) → certain (cond t (result x) ((result x).1, (result x).0)).0 (cond t (result x) ((result x).1, (result x).0)).1 ≡ true
    go true Lower = refl
    go true Higher = refl
    go false Lower = refl
    go false Higher = refl

pub order_carries_own : (n : ℕ) (upsets : List Upset) → length upsets ≡ 256 → legal n ≡ true → (a b : ℕ) → opponents n a b ≡ true → ranked a b ((order_sheet n upsets).beats a b) ((order_sheet n upsets).beats b a) ≡ true
order_carries_own n upsets whole leg a b h = told_each standing ranked n upsets (λ f. ranked a b f.0 f.1 ≡ true) a b whole leg h (λ x. and_from (not (a == b)) _ (not_from_false (a == b) (ne_eqb a b (met n a b h).2)) (go (nat_lt a b) x))
  where
    go : (t : Bool) (x : Upset) → (free (cond t (cond t (standing x) ((standing x).1, (standing x).0)) ((cond t (standing x) ((standing x).1, (standing x).0)).1, (cond t (standing x) ((standing x).1, (standing x).0)).0)).0
        && plain (cond t (cond t (standing x) ((standing x).1, (standing x).0)) ((cond t (standing x) ((standing x).1, (standing x).0)).1, (cond t (standing x) ((standing x).1, (standing x).0)).0)).1) ≡ true
    go true Marked = refl
    go true Unmarked = refl
    go false Marked = refl
    go false Unmarked = refl

pub bribes_carry_own : (n : ℕ) (pairings : List Pairing) → length pairings ≡ 256 → legal n ≡ true → (a b : ℕ) → opponents n a b ≡ true → one_free ((bribe_sheet n pairings).beats a b) ((bribe_sheet n pairings).beats b a) ≡ true
bribes_carry_own n pairings whole leg a b h = (bribes_lawful n pairings whole leg).side_free a b h
