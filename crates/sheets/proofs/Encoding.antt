-- Words and their bits, words and their bytes, there and back. Assumes nothing.
use Rattle.std.proofs.Common.{◌≡◌, ℕ, zero, suc, ◌+◌, ◌*◌, ◌/◌, ◌%◌, ◌^◌, ◌<◌, Bool, true, false, cond, eqb, List, [], ◌∷◌, ◌++◌, length, get_or, Some, None, refl, ap, ◌∙◌, subst, arith}
use Rattle.std.proofs.lemmas.Bool.{eqb-true, eqb-false, eq-eqb, ne_eqb, cond-true, cond-false}
use Rattle.std.proofs.lemmas.Nat.{from_le_bytes-to_le_bytes_4, le_bytes_4}
use Rattle.sheets.specs.declared.words.Word.{Word}
use Rattle.sheets.specs.declared.words.Word.TheVariants.{Head, Price, Upset, Outcome, Stray}
use Rattle.sheets.specs.Words.{fact_of, Fitting, bits_of, word_of}
use Rattle.sheets.specs.Bytes.{bytes_of, words_of}

-- the word of bits whose kind is known
kind_two : (bits : ℕ) → bits / 2 ^ 29 ≡ 2 → word_of bits ≡ cond (eqb (bits / 2 ^ 7 % 2 ^ 22) 0) (Head (bits % 2 ^ 5) (bits / 2 ^ 5 % 2 ^ 2)) Stray
kind_two bits e = cond-true (eqb (bits / 2 ^ 29) 2) _ _ (eq-eqb (bits / 2 ^ 29) 2 e)

kind_three : (bits : ℕ) → bits / 2 ^ 29 ≡ 3 → word_of bits ≡ Price (bits / 2 ^ 24 % 2 ^ 4) (bits / 2 ^ 20 % 2 ^ 4) (fact_of (bits % 2 ^ 20) (eqb (bits / 2 ^ 28 % 2) 1))
kind_three bits e = cond-false (eqb (bits / 2 ^ 29) 2) _ _ (ne_eqb (bits / 2 ^ 29) 2 (λ h. omega arith)) ∙ cond-true (eqb (bits / 2 ^ 29) 3) _ _ (eq-eqb (bits / 2 ^ 29) 3 e)

kind_five : (bits : ℕ) → bits / 2 ^ 29 ≡ 5 → word_of bits ≡ cond (eqb (bits / 2 ^ 8 % 2 ^ 21) 0) (Upset (bits % 2 ^ 4) (bits / 2 ^ 4 % 2 ^ 4)) Stray
kind_five bits e =
    cond-false (eqb (bits / 2 ^ 29) 2) _ _ (ne_eqb (bits / 2 ^ 29) 2 (λ h. omega arith)) ∙ cond-false (eqb (bits / 2 ^ 29) 3) _ _ (ne_eqb (bits / 2 ^ 29) 3 (λ h. omega arith))
    ∙ cond-true (eqb (bits / 2 ^ 29) 5) _ _ (eq-eqb (bits / 2 ^ 29) 5 e)

kind_six : (bits : ℕ) → bits / 2 ^ 29 ≡ 6 → word_of bits ≡ cond (eqb (bits / 2 ^ 8 % 2 ^ 21) 0) (Outcome (bits % 2 ^ 4) (bits / 2 ^ 4 % 2 ^ 4)) Stray
kind_six bits e =
    cond-false (eqb (bits / 2 ^ 29) 2) _ _ (ne_eqb (bits / 2 ^ 29) 2 (λ h. omega arith)) ∙ cond-false (eqb (bits / 2 ^ 29) 3) _ _ (ne_eqb (bits / 2 ^ 29) 3 (λ h. omega arith))
    ∙ cond-false (eqb (bits / 2 ^ 29) 5) _ _ (ne_eqb (bits / 2 ^ 29) 5 (λ h. omega arith)) ∙ cond-true (eqb (bits / 2 ^ 29) 6) _ _ (eq-eqb (bits / 2 ^ 29) 6 e)

-- a word of a sheet: not a stray one, and a price word has its fact
abbrev pub Proper : Word → Type 0
Proper (Head size source) = Unit {0}
Proper (Price winner loser None) = ⊥
Proper (Price winner loser (Some fact)) = Unit {0}
Proper (Upset winner loser) = Unit {0}
Proper (Outcome winner loser) = Unit {0}
Proper Stray = ⊥

price_alike : {w w' l l' price price' mark mark' : ℕ} → w ≡ w' → l ≡ l' → price ≡ price' → mark ≡ mark' → Price w l (fact_of price (eqb (mark % 2) 1)) ≡ Price w' l' (fact_of price' (eqb (mark' % 2) 1))
price_alike p q r s = cc

pub word_back : (w : Word) → Proper w → Fitting w → word_of (bits_of w) ≡ w
word_back (Head size source) ok (p, q) =
    let bits = 2 * 2 ^ 29 + source * 2 ^ 5 + size in
    let s : (2 * 2 ^ 29 + source * 2 ^ 5 + size) % 2 ^ 5 ≡ size = omega arith in
    let q5 : (2 * 2 ^ 29 + source * 2 ^ 5 + size) / 2 ^ 5 ≡ 2 ^ 25 + source = omega arith in
    let low : (2 ^ 25 + source) % 2 ^ 2 ≡ source = omega arith in
    let t : (2 * 2 ^ 29 + source * 2 ^ 5 + size) / 2 ^ 5 % 2 ^ 2 ≡ source = ap (λ (i : ℕ). i % 2 ^ 2) q5 ∙ low in
    let q7 : (2 * 2 ^ 29 + source * 2 ^ 5 + size) / 2 ^ 7 ≡ 2 ^ 23 = omega arith in
    kind_two bits (omega arith) ∙ cond-true (eqb (bits / 2 ^ 7 % 2 ^ 22) 0) _ _ (eq-eqb (bits / 2 ^ 7 % 2 ^ 22) 0 (ap (λ (i : ℕ). i % 2 ^ 22) q7))
    ∙ ap (λ i. Head i (bits / 2 ^ 5 % 2 ^ 2)) s ∙ ap (λ i. Head size i) t
word_back (Price w l None) ok fit = absurd ok
word_back (Price w l (Some None)) ok (p, q, r) =
    let bits = 3 * 2 ^ 29 + w * 2 ^ 24 + l * 2 ^ 20 + 2 ^ 28 in
    let q28 : (3 * 2 ^ 29 + w * 2 ^ 24 + l * 2 ^ 20 + 2 ^ 28) / 2 ^ 28 ≡ 7 = omega arith in
    let x : (3 * 2 ^ 29 + w * 2 ^ 24 + l * 2 ^ 20 + 2 ^ 28) / 2 ^ 24 % 2 ^ 4 ≡ w = omega arith in
    let y : (3 * 2 ^ 29 + w * 2 ^ 24 + l * 2 ^ 20 + 2 ^ 28) / 2 ^ 20 % 2 ^ 4 ≡ l = omega arith in
    let z : (3 * 2 ^ 29 + w * 2 ^ 24 + l * 2 ^ 20 + 2 ^ 28) % 2 ^ 20 ≡ 0 = omega arith in
    kind_three bits (omega arith) ∙ price_alike x y z q28
word_back (Price w l (Some (Some price))) ok (p, q, r) =
    let bits = 3 * 2 ^ 29 + w * 2 ^ 24 + l * 2 ^ 20 + price in
    let q28 : (3 * 2 ^ 29 + w * 2 ^ 24 + l * 2 ^ 20 + price) / 2 ^ 28 ≡ 6 = omega arith in
    let x : (3 * 2 ^ 29 + w * 2 ^ 24 + l * 2 ^ 20 + price) / 2 ^ 24 % 2 ^ 4 ≡ w = omega arith in
    let y : (3 * 2 ^ 29 + w * 2 ^ 24 + l * 2 ^ 20 + price) / 2 ^ 20 % 2 ^ 4 ≡ l = omega arith in
    let z : (3 * 2 ^ 29 + w * 2 ^ 24 + l * 2 ^ 20 + price) % 2 ^ 20 ≡ price = omega arith in
    kind_three bits (omega arith) ∙ price_alike x y z q28
word_back (Upset w l) ok (p, q) =
    let bits = 5 * 2 ^ 29 + l * 2 ^ 4 + w in
    let s : (5 * 2 ^ 29 + l * 2 ^ 4 + w) % 2 ^ 4 ≡ w = omega arith in
    let q4 : (5 * 2 ^ 29 + l * 2 ^ 4 + w) / 2 ^ 4 ≡ 5 * 2 ^ 25 + l = omega arith in
    let low : (5 * 2 ^ 25 + l) % 2 ^ 4 ≡ l = omega arith in
    let t : (5 * 2 ^ 29 + l * 2 ^ 4 + w) / 2 ^ 4 % 2 ^ 4 ≡ l = ap (λ (i : ℕ). i % 2 ^ 4) q4 ∙ low in
    let q8 : (5 * 2 ^ 29 + l * 2 ^ 4 + w) / 2 ^ 8 ≡ 5 * 2 ^ 21 = omega arith in
    kind_five bits (omega arith) ∙ cond-true (eqb (bits / 2 ^ 8 % 2 ^ 21) 0) _ _ (eq-eqb (bits / 2 ^ 8 % 2 ^ 21) 0 (ap (λ (i : ℕ). i % 2 ^ 21) q8))
    ∙ ap (λ i. Upset i (bits / 2 ^ 4 % 2 ^ 4)) s ∙ ap (λ i. Upset w i) t
word_back (Outcome w l) ok (p, q) =
    let bits = 6 * 2 ^ 29 + l * 2 ^ 4 + w in
    let s : (6 * 2 ^ 29 + l * 2 ^ 4 + w) % 2 ^ 4 ≡ w = omega arith in
    let q4 : (6 * 2 ^ 29 + l * 2 ^ 4 + w) / 2 ^ 4 ≡ 6 * 2 ^ 25 + l = omega arith in
    let low : (6 * 2 ^ 25 + l) % 2 ^ 4 ≡ l = omega arith in
    let t : (6 * 2 ^ 29 + l * 2 ^ 4 + w) / 2 ^ 4 % 2 ^ 4 ≡ l = ap (λ (i : ℕ). i % 2 ^ 4) q4 ∙ low in
    let q8 : (6 * 2 ^ 29 + l * 2 ^ 4 + w) / 2 ^ 8 ≡ 6 * 2 ^ 21 = omega arith in
    kind_six bits (omega arith) ∙ cond-true (eqb (bits / 2 ^ 8 % 2 ^ 21) 0) _ _ (eq-eqb (bits / 2 ^ 8 % 2 ^ 21) 0 (ap (λ (i : ℕ). i % 2 ^ 21) q8))
    ∙ ap (λ i. Outcome i (bits / 2 ^ 4 % 2 ^ 4)) s ∙ ap (λ i. Outcome w i) t
word_back Stray ok fit = absurd ok

pub bits_small : (w : Word) → Fitting w → bits_of w < 2 ^ 32
bits_small (Head size source) (p, q) = omega arith
bits_small (Price w l None) fit = omega arith
bits_small (Price w l (Some None)) (p, q, r) = omega arith
bits_small (Price w l (Some (Some price))) (p, q, r) = omega arith
bits_small (Upset w l) (p, q) = omega arith
bits_small (Outcome w l) (p, q) = omega arith
bits_small Stray fit = omega arith

-- the bits of a price word that has its fact
marked : (w l price mark : ℕ) → mark < 2 → Proper (Price w l (fact_of price (eqb mark 1))) → bits_of (Price w l (fact_of price (eqb mark 1))) ≡ 3 * 2 ^ 29 + w * 2 ^ 24 + l * 2 ^ 20 + (mark * 2 ^ 28 + price)
marked w l price mark h ok = go (eqb mark 1) (eqb price 0) refl refl ok
  where
    go : (t z : Bool) → eqb mark 1 ≡ t → eqb price 0 ≡ z → Proper (Price w l (fact_of price (eqb mark 1))) → bits_of (Price w l (fact_of price (eqb mark 1))) ≡ 3 * 2 ^ 29 + w * 2 ^ 24 + l * 2 ^ 20 + (mark * 2 ^ 28 + price)
    go true true e f ok = let is : fact_of price (eqb mark 1) ≡ Some None = ap (fact_of price) e ∙ cond-true (eqb price 0) (Some None) None f in ap (λ x. bits_of (Price w l x)) is ∙ omega (arith, eqb-true mark 1 e, eqb-true price 0 f)
    go true false e f ok = let is : fact_of price (eqb mark 1) ≡ None = ap (fact_of price) e ∙ cond-false (eqb price 0) (Some None) None f in absurd (subst (λ x. Proper (Price w l x)) is ok)
    go false z e f ok = ap (λ t. bits_of (Price w l (fact_of price t))) e ∙ omega (arith, eqb-false mark 1 e)

-- bits that say a proper word are the bits of that word
pub bits_back : (bits : ℕ) → bits < 2 ^ 32 → Proper (word_of bits) → bits_of (word_of bits) ≡ bits
bits_back bits small ok = two (eqb (bits / 2 ^ 29) 2) refl
  where
    -- a test of unused bits that came out so
    unused : (g : ℕ) (w : Word) (t : Bool) → eqb g 0 ≡ t → word_of bits ≡ cond t w Stray → (g ≡ 0 → bits_of w ≡ bits) → bits_of (word_of bits) ≡ bits
    unused g w true e is h = ap bits_of is ∙ h (eqb-true g 0 e)
    unused g w false e is h = absurd (subst Proper is ok)

    six : (t : Bool) → eqb (bits / 2 ^ 29) 6 ≡ t → (bits / 2 ^ 29 ≡ 2 → ⊥) → (bits / 2 ^ 29 ≡ 3 → ⊥) → (bits / 2 ^ 29 ≡ 5 → ⊥) → bits_of (word_of bits) ≡ bits
    six true e a b c = let k = eqb-true (bits / 2 ^ 29) 6 e in unused (bits / 2 ^ 8 % 2 ^ 21) _ (eqb (bits / 2 ^ 8 % 2 ^ 21) 0) refl (kind_six bits k) (λ z. omega arith)
    six false e a b c =
        absurd (subst Proper (cond-false (eqb (bits / 2 ^ 29) 2) _ _ (ne_eqb (bits / 2 ^ 29) 2 a) ∙ cond-false (eqb (bits / 2 ^ 29) 3) _ _ (ne_eqb (bits / 2 ^ 29) 3 b)
        ∙ cond-false (eqb (bits / 2 ^ 29) 5) _ _ (ne_eqb (bits / 2 ^ 29) 5 c) ∙ cond-false (eqb (bits / 2 ^ 29) 6) _ _ e) ok)

    five : (t : Bool) → eqb (bits / 2 ^ 29) 5 ≡ t → (bits / 2 ^ 29 ≡ 2 → ⊥) → (bits / 2 ^ 29 ≡ 3 → ⊥) → bits_of (word_of bits) ≡ bits
    five true e a b = let k = eqb-true (bits / 2 ^ 29) 5 e in unused (bits / 2 ^ 8 % 2 ^ 21) _ (eqb (bits / 2 ^ 8 % 2 ^ 21) 0) refl (kind_five bits k) (λ z. omega arith)
    five false e a b = six (eqb (bits / 2 ^ 29) 6) refl a b (eqb-false (bits / 2 ^ 29) 5 e)

    three : (t : Bool) → eqb (bits / 2 ^ 29) 3 ≡ t → (bits / 2 ^ 29 ≡ 2 → ⊥) → bits_of (word_of bits) ≡ bits
    three true e a =
        let k = eqb-true (bits / 2 ^ 29) 3 e in
        let d24 : bits / 2 ^ 24 ≡ bits / 2 ^ 20 / 16 = omega arith in
        let d28 : bits / 2 ^ 28 ≡ bits / 2 ^ 24 / 16 = omega arith in
        let d29 : bits / 2 ^ 29 ≡ bits / 2 ^ 28 / 2 = omega arith in
        ap bits_of (kind_three bits k)
        ∙ marked (bits / 2 ^ 24 % 2 ^ 4) (bits / 2 ^ 20 % 2 ^ 4) (bits % 2 ^ 20) (bits / 2 ^ 28 % 2) (omega arith) (subst Proper (kind_three bits k) ok) ∙ omega arith
    three false e a = five (eqb (bits / 2 ^ 29) 5) refl a (eqb-false (bits / 2 ^ 29) 3 e)

    two : (t : Bool) → eqb (bits / 2 ^ 29) 2 ≡ t → bits_of (word_of bits) ≡ bits
    two true e = let k = eqb-true (bits / 2 ^ 29) 2 e in unused (bits / 2 ^ 7 % 2 ^ 22) _ (eqb (bits / 2 ^ 7 % 2 ^ 22) 0) refl (kind_two bits k) (λ z. omega arith)
    two false e = three (eqb (bits / 2 ^ 29) 3) refl (eqb-false (bits / 2 ^ 29) 2 e)

-- words to bytes and back
abbrev pub Small : List ℕ → Type 0
Small [] = Unit {0}
Small (w ∷ ws) = (w < 2 ^ 32) × Small ws

pub words_back : (ws : List ℕ) → Small ws → words_of (bytes_of ws) ≡ ws
words_back [] s = refl
words_back (w ∷ ws) (p, s) = ap (λ x. x ∷ words_of (bytes_of ws)) (from_le_bytes-to_le_bytes_4 w p) ∙ ap (λ xs. w ∷ xs) (words_back ws s)

pub bytes_back : (bytes : List ℕ) → ((i : ℕ) → get_or bytes i 0 < 256) → length bytes % 4 ≡ 0 → bytes_of (words_of bytes) ≡ bytes
bytes_back [] s m = refl
bytes_back (a ∷ []) s m = absurd (omega arith)
bytes_back (a ∷ b ∷ []) s m = absurd (omega arith)
bytes_back (a ∷ b ∷ c ∷ []) s m = absurd (omega arith)
bytes_back (a ∷ b ∷ c ∷ d ∷ rest) s m =
    let ih = bytes_back rest (λ i. s (suc (suc (suc (suc i))))) (omega arith) in
    ap (λ bytes. bytes ++ bytes_of (words_of rest)) (le_bytes_4 (a ∷ b ∷ c ∷ d ∷ []) (a + b * 256 + c * 65536 + d * 16777216) refl within (omega arith)) ∙ ap (λ bytes. a ∷ b ∷ c ∷ d ∷ bytes) ih
  where
    within : (i : ℕ) → get_or (a ∷ b ∷ c ∷ d ∷ []) i 0 < 256
    within zero = s 0
    within (suc zero) = s 1
    within (suc (suc zero)) = s 2
    within (suc (suc (suc zero))) = s 3
    within (suc (suc (suc (suc i)))) = omega arith

pub words_small : (bytes : List ℕ) → ((i : ℕ) → get_or bytes i 0 < 256) → Small (words_of bytes)
words_small [] s = tt
words_small (a ∷ []) s = tt
words_small (a ∷ b ∷ []) s = tt
words_small (a ∷ b ∷ c ∷ []) s = tt
words_small (a ∷ b ∷ c ∷ d ∷ rest) s =
    let p = s 0 in let q = s 1 in let r = s 2 in let t = s 3 in
    (omega arith, words_small rest (λ i. s (suc (suc (suc (suc i))))))
