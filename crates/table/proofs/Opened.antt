-- From an opened table to its first level. Assumes nothing.
use Rattle.std.proofs.Common.{◌≡◌, ℕ, ◌+◌, ◌^◌, ◌<◌, ◌≤◌, Bool, true, false, cond, not, ltb, List, map, length, Some, None, Option, sym, refl, ◌∙◌, subst, arith, pow_mono}
use lib.Count.{count_trailing_zeros}
use lib.Pow.{pow-lt}
use Rattle.std.proofs.lemmas.Bool.{ltb-false, le-ltb, cond-false}
use Rattle.facts.specs.declared.refusals.Refusal.{Refusal}
use Rattle.facts.specs.declared.refusals.Refusal.TheVariants.{SizeNotAllowed, MemoryTooShort}
use Rattle.facts.specs.Fields.{legal}
use Rattle.algebra.specs.Semirings.{Semiring}
use Rattle.figures.specs.Fields.{Field}
use Rattle.cells.specs.Renewal.{Renewal, of_level}
use Rattle.cells.specs.Rooms.{needed, room_refusal}
use Rattle.cells.proofs.Fitting.{not_refused, rounds_make}
use Rattle.table.specs.Singles.{of_singles}
use Rattle.table.specs.Fillings.{Cleared, FilledTo, TailKept}
use Rattle.table.specs.Refusing.{open_refusal, fill_refusal, finish_refusal}
use Rattle.table.proofs.Rising.{singles_within, level_within}
use Rattle.table.proofs.Roomy.{fill_as_refresh}

-- where a table can be opened, its size is legal and its cells fit
pub open_room : (n count : ℕ) → open_refusal n count ≡ None → (legal n ≡ true) × (needed n ≤ count)
open_room n count h = go (legal n) refl (ltb count (needed n)) refl h
  where
    go : (a : Bool) → legal n ≡ a → (b : Bool) → ltb count (needed n) ≡ b
        → ◌≡◌ {A = Option Refusal} (cond (not a) (Some SizeNotAllowed) (cond b (Some MemoryTooShort) None)) None → (legal n ≡ true) × (needed n ≤ count)
    go false e b d h = let z : ◌≡◌ {A = ℕ} 0 1 = cc in absurd (omega arith)
    go true e true d h = let z : ◌≡◌ {A = ℕ} 0 1 = cc in absurd (omega arith)
    go true e false d h = (e, ltb-false count (needed n) d)

-- where its cells fit, a memory is not too short
pub room_free : (n count : ℕ) → needed n ≤ count → room_refusal n count ≡ None
room_free n count h = cond-false (ltb count (needed n)) _ _ (le-ltb count (needed n) h)

-- clearing and seating leave what lies behind
pub tail_kept : {V M : Type 0} (A : Semiring M) (means : V → M) (n : ℕ) (xs ys zs : List V) → 0 < n
    → Cleared A means (needed n) xs ys → Renewal A means n (of_singles n) (λ _ _. A.one) ys zs → TailKept (needed n) xs zs
tail_kept A means n xs ys zs some c r = (
  r.same_length ∙ c.same_length,
  λ i d h. r.held i d (singles_within n i some h) ∙ c.held i d h,
)

module _ {V M : Type 0} (A : Semiring M) (means : V → M) (f : Field) where
  -- what is known while a table is filled, on the way from the values xs to ys: a stage of so many entrants is at a level
  pub record UnderWay (size level : ℕ) (xs ys : List V) : Type 0 where
    pub same_size : size ≡ f.size
    pub room : needed f.size ≤ length xs
    pub figures_so_far : FilledTo A f level (map means ys)
    pub tail : TailKept (needed f.size) xs ys

  pub first_level_stands : (size level n : ℕ) (xs ys : List V) → size ≡ n → level ≡ 0 → n ≡ f.size → open_refusal n (length xs) ≡ None
      → ((g : Field) → g.size ≡ n → FilledTo A g 0 (map means ys)) × TailKept (needed n) xs ys → UnderWay size level xs ys
  first_level_stands size level n xs ys same nought e h b =
      record {
        same_size = same ∙ e;
        room = subst (λ (k : ℕ). needed k ≤ length xs) e (open_room n (length xs) h).1;
        figures_so_far = subst (λ (k : ℕ). FilledTo A f k (map means ys)) (sym nought) (b.0 f (sym e));
        tail = subst (λ (k : ℕ). TailKept (needed k) xs ys) e b.1;
      }

  -- one level more
  pub level_added : (size level size' level' : ℕ) (v : ℕ → ℕ → M) (xs ys zs : List V) → size' ≡ size → level' ≡ level + 1 → 0 < f.size → Renewal A means size (of_level size (2 ^ (level + 1)) 0) v ys zs
      → FilledTo A f (level + 1) (map means zs) → UnderWay size level xs ys → UnderWay size' level' xs zs
  level_added size level size' level' v xs ys zs same one_more some r filled u =
      let q = subst (λ (k : ℕ). Renewal A means k (of_level k (2 ^ (level + 1)) 0) v ys zs) u.same_size r in
      record {
        same_size = same ∙ u.same_size;
        room = u.room;
        figures_so_far = subst (λ (k : ℕ). FilledTo A f k (map means zs)) (sym one_more) filled;
        tail = (
          q.same_length ∙ u.tail.0,
          λ i d h. q.held i d (level_within f.size (2 ^ (level + 1)) i some h) ∙ u.tail.1 i d h,
        );
      }

-- a level that is not the last has entrants left, and can be filled
pub level_left : (n level : ℕ) → legal n ≡ true → level < count_trailing_zeros 64 n → 2 ^ level < n
level_left n level h l = omega (arith, pow-lt l, rounds_make n h)

pub fill_free : (n level size count : ℕ) → n ≡ size → needed size ≤ count → 2 ^ level < size → fill_refusal n level size count ≡ None
fill_free n level size count e room left = fill_as_refresh n size level count (sym e) ∙ sym (not_refused size count level room left)

-- after the last level none are left, and the table can be finished
pub none_left : (n level : ℕ) → legal n ≡ true → count_trailing_zeros 64 n ≤ level → n ≤ 2 ^ level
none_left n level h l = omega (arith, pow_mono l, rounds_make n h)

pub finish_free : (n level : ℕ) → n ≤ 2 ^ level → finish_refusal n level ≡ None
finish_free n level h = cond-false (ltb (2 ^ level) n) _ _ (le-ltb (2 ^ level) n h)
