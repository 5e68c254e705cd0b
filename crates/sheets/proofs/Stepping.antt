-- How the rows of a sheet follow one another. Assumes nothing.
use Rattle.std.proofs.Common.{◌≡◌, ℕ, zero, suc, ◌+◌, ◌-◌, ◌<◌, ◌≤◌, Bool, true, false, cond, ◌⊎◌, List, [], ◌∷◌, ◌++◌, length, is_some, Some, None, Option, sym, refl, ap, ◌∙◌, inl, inr, arith, length-append}
use Rattle.std.specs.List.{range_with_len, find, filter_map, cons_option}
use Rattle.std.proofs.lemmas.Bool.{cases_eq}
use Rattle.std.proofs.lemmas.List.Elements.{filter_map-append}
use Rattle.std.proofs.lemmas.List.FromFn.{length-range_with_len}
use Rattle.sources.specs.declared.kind.SourceKind.{SourceKind}
use Rattle.sheets.specs.Places.{has_row, next_row}
use Rattle.sheets.specs.Contents.{row_at, rows_of}

pub counting_open : (p : ℕ) → p < 256 → range_with_len p (256 - p) ≡ p ∷ range_with_len (p + 1) (256 - (p + 1))
counting_open p h = let e : 256 - p ≡ suc (256 - (p + 1)) = omega arith in ap (range_with_len p) e

pub row_here : (k : SourceKind) (n p : ℕ) → p < 256 → has_row k n p ≡ true → next_row k n p ≡ Some p
row_here k n p h e =
    ap (find (has_row k n)) (counting_open p h) ∙ ap (λ b. cond b (Some p) (find (has_row k n) (range_with_len (p + 1) (256 - (p + 1))))) e

pub row_past : (k : SourceKind) (n p : ℕ) → p < 256 → has_row k n p ≡ false → next_row k n p ≡ next_row k n (p + 1)
row_past k n p h e =
    ap (find (has_row k n)) (counting_open p h) ∙ ap (λ b. cond b (Some p) (find (has_row k n) (range_with_len (p + 1) (256 - (p + 1))))) e

-- the first that passes a test, of a range
pub record First (f : ℕ → Bool) (from p end : ℕ) : Type 0 where
  pub behind : from ≤ p
  pub before : p < end
  pub passes : f p ≡ true
  pub none : (q : ℕ) → from ≤ q → q < p → f q ≡ false

pub first_found : (f : ℕ → Bool) (from m p : ℕ) → find f (range_with_len from m) ≡ Some p → First f from p (from + m)
first_found f from zero p e = absurd (cc)
first_found f from (suc m) p e = go (f from) refl (first_found f (from + 1) m p) e
  where
    go : (b : Bool) → f from ≡ b → (find f (range_with_len (from + 1) m) ≡ Some p → First f (from + 1) p (from + 1 + m))
        → cond b (Some from) (find f (range_with_len (from + 1) m)) ≡ Some p → First f from p (from + suc m)
    go true h ih k =
        let is : from ≡ p = cc in
        record { behind = omega arith; before = omega arith; passes = ap f (sym is) ∙ h; none = λ q l r. absurd (omega arith) }
    go false h ih k =
        let t = ih k in
        record { behind = omega (arith, t.behind); before = omega (arith, t.before); passes = t.passes; none = λ q l r. past t q l r (cases_eq from q) }
      where
        past : First f (from + 1) p (from + 1 + m) → (q : ℕ) → from ≤ q → q < p → (from ≡ q) ⊎ (from ≡ q → ⊥) → f q ≡ false
        past t q l r (inl is) = ap f (sym is) ∙ h
        past t q l r (inr ne) = t.none q (omega arith) r

pub none_found : (f : ℕ → Bool) (from m : ℕ) → find f (range_with_len from m) ≡ None → (q : ℕ) → from ≤ q → q < from + m → f q ≡ false
none_found f from zero e q l r = absurd (omega arith)
none_found f from (suc m) e q l r = go (f from) refl (none_found f (from + 1) m) e (cases_eq from q)
  where
    go : (b : Bool) → f from ≡ b → (find f (range_with_len (from + 1) m) ≡ None → (q : ℕ) → from + 1 ≤ q → q < from + 1 + m → f q ≡ false)
        → cond b (Some from) (find f (range_with_len (from + 1) m)) ≡ None → (from ≡ q) ⊎ (from ≡ q → ⊥) → f q ≡ false
    go true h ih k t = absurd (cc)
    go false h ih k (inl is) = ap f (sym is) ∙ h
    go false h ih k (inr ne) = ih k q (omega arith) (omega arith)

-- the rows from a place on, where none stands before another place
pub next_at : (k : SourceKind) (n d from p : ℕ) → from + d ≡ p → p < 256 → ((q : ℕ) → from ≤ q → q < p → has_row k n q ≡ false) → has_row k n p ≡ true → next_row k n from ≡ Some p
next_at k n zero from p e h none here =
    let is : from ≡ p = omega arith in
    row_here k n from (omega arith) (ap (has_row k n) is ∙ here) ∙ ap {B = Option ℕ} (λ (x : ℕ). Some x) is
next_at k n (suc d) from p e h none here =
    row_past k n from (omega arith) (none from (omega arith) (omega arith)) ∙ next_at k n d (from + 1) p (omega arith) h (λ q l r. none q (omega arith) r) here

pub next_none : (k : SourceKind) (n d from : ℕ) → from + d ≡ 256 → ((q : ℕ) → from ≤ q → q < 256 → has_row k n q ≡ false) → next_row k n from ≡ None
next_none k n zero from e none = let is : 256 - from ≡ 0 = omega arith in ap (λ m. find (has_row k n) (range_with_len from m)) is
next_none k n (suc d) from e none =
    row_past k n from (omega arith) (none from (omega arith) (omega arith)) ∙ next_none k n d (from + 1) (omega arith) (λ q l r. none q (omega arith) r)

-- what is filter_map where nothing is told
pub gathered_none : {X : Type 0} (f : ℕ → Option X) (from m : ℕ) → ((p : ℕ) → from ≤ p → p < from + m → f p ≡ None) → filter_map f (range_with_len from m) ≡ []
gathered_none f from zero h = refl
gathered_none f from (suc m) h =
    ap (λ o. cons_option o (filter_map f (range_with_len (from + 1) m))) (h from (omega arith) (omega arith)) ∙ gathered_none f (from + 1) m (λ p l r. h p (omega arith) (omega arith))

-- what is filter_map from a place on, where the first that is told stands at another
pub gathered_at : {X : Type 0} (f : ℕ → Option X) (d from q : ℕ) (x : X) → from + d ≡ q → q < 256 → ((p : ℕ) → from ≤ p → p < q → f p ≡ None) → f q ≡ Some x
    → filter_map f (range_with_len from (256 - from)) ≡ x ∷ filter_map f (range_with_len (q + 1) (256 - (q + 1)))
gathered_at f zero from q x e h none here =
    let is : from ≡ q = omega arith in
    ap (filter_map f) (counting_open from (omega arith)) ∙ ap (λ o. cons_option o (filter_map f (range_with_len (from + 1) (256 - (from + 1))))) (ap f is ∙ here)
    ∙ ap (λ i. x ∷ filter_map f (range_with_len (i + 1) (256 - (i + 1)))) is
gathered_at f (suc d) from q x e h none here =
    ap (filter_map f) (counting_open from (omega arith)) ∙ ap (λ o. cons_option o (filter_map f (range_with_len (from + 1) (256 - (from + 1))))) (none from (omega arith) (omega arith))
    ∙ gathered_at f d (from + 1) q x (omega arith) h (λ p l r. none p (omega arith) r) here

cons_option_longer : {Y : Type 0} (o : Option Y) (ys : List Y) → length (cons_option o ys) ≤ suc (length ys)
cons_option_longer None ys = omega arith
cons_option_longer (Some y) ys = omega arith

filter_map_shorter : {X Y : Type 0} (f : X → Option Y) (xs : List X) → length (filter_map f xs) ≤ length xs
filter_map_shorter f [] = omega arith
filter_map_shorter f (x ∷ xs) = omega (arith, filter_map_shorter f xs, cons_option_longer (f x) (filter_map f xs))

-- there are at most as many rows as places
pub rows_few : (k : SourceKind) (n : ℕ) (beats : ℕ → ℕ → Option ℕ) → length (rows_of k n beats) ≤ 256
unfolding rows_of
rows_few k n beats = omega (arith, filter_map_shorter (row_at k n beats) (range_with_len 0 256), length-range_with_len 0 256)

range_split : (m from d : ℕ) → range_with_len from (m + d) ≡ range_with_len from m ++ range_with_len (from + m) d
range_split zero from d =
    let e : zero + d ≡ d = omega arith in
    let h : from ≡ from + zero = omega arith in
    ap (range_with_len from) e ∙ ap (λ i. range_with_len i d) h
range_split (suc m) from d =
    let e : suc m + d ≡ suc (m + d) = omega arith in
    let h : from + 1 + m ≡ from + suc m = omega arith in
    ap (range_with_len from) e ∙ ap (λ ps. from ∷ ps) (range_split m (from + 1) d) ∙ ap (λ i. from ∷ (range_with_len (from + 1) m ++ range_with_len i d)) h

-- what is filter_map of a range, by its parts
pub gathered_split : {X : Type 0} (f : ℕ → Option X) (m from d : ℕ) → filter_map f (range_with_len from (m + d)) ≡ filter_map f (range_with_len from m) ++ filter_map f (range_with_len (from + m) d)
gathered_split f m from d = ap (filter_map f) (range_split m from d) ∙ filter_map-append f (range_with_len from m) (range_with_len (from + m) d)

-- one place more
pub gathered_more : {X : Type 0} (f : ℕ → Option X) (m : ℕ) → filter_map f (range_with_len 0 (m + 1)) ≡ filter_map f (range_with_len 0 m) ++ cons_option (f m) []
gathered_more f m = let e : 0 + m ≡ m = omega arith in gathered_split f m 0 1 ∙ ap (λ i. filter_map f (range_with_len 0 m) ++ cons_option (f i) []) e

-- how many are told with one place more
pub gathered_count : {X : Type 0} (f : ℕ → Option X) (m : ℕ) (o : Option X) → o ≡ f m → length (filter_map f (range_with_len 0 (m + 1))) ≡ length (filter_map f (range_with_len 0 m)) + cond (is_some o) 1 0
gathered_count f m o h =
    ap length (gathered_more f m) ∙ length-append (filter_map f (range_with_len 0 m)) (cons_option (f m) []) ∙ ap (λ n. length (filter_map f (range_with_len 0 m)) + n) (ap (λ x. length (cons_option x [])) (sym h) ∙ go o)
  where
    go : {Y : Type 0} (x : Option Y) → length (cons_option x []) ≡ cond (is_some x) 1 0
    go None = refl
    go (Some x) = refl

-- all rows are those of all places
pub rows_all : (k : SourceKind) (n : ℕ) (beats : ℕ → ℕ → Option ℕ) (m : ℕ) → m ≡ 256 → filter_map (row_at k n beats) (range_with_len 0 m) ≡ rows_of k n beats
unfolding rows_of
rows_all k n beats m h = ap (λ i. filter_map (row_at k n beats) (range_with_len 0 i)) h

pub rows_less : (k : SourceKind) (n : ℕ) (beats : ℕ → ℕ → Option ℕ) (m : ℕ) → m ≤ 256 → length (filter_map (row_at k n beats) (range_with_len 0 m)) ≤ length (rows_of k n beats)
rows_less k n beats m h =
    let e : m + (256 - m) ≡ 256 = omega arith in
    let whole = ap length (sym (rows_all k n beats (m + (256 - m)) e) ∙ gathered_split (row_at k n beats) m 0 (256 - m)) ∙ length-append (filter_map (row_at k n beats) (range_with_len 0 m)) (filter_map (row_at k n beats) (range_with_len (0 + m) (256 - m))) in
    omega (arith, whole)
