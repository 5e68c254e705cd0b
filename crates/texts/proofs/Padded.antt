-- What the library writes at the right end of a column.
use Rattle.std.proofs.Common.{◌≡◌, ℕ, zero, suc, ◌-◌, Bool, true, false, cond, List, [], ◌∷◌, length, replicate, refl, ap, append-nil, arith}
use Rattle.std.specs.Fmt.{format_spec, padded, padded_integral, char_count, take_chars}
use Rattle.std.specs.List.{repeat}
use lib.Utf8.{encode}
use Rattle.texts.specs.Columns.{aligned}

pub repeat_one : (n c : ℕ) → repeat n (c ∷ []) ≡ replicate n c
repeat_one zero c = refl
repeat_one (suc n) c = ap (λ cs. c ∷ cs) (repeat_one n c)

-- what `{:>width}` writes of the digits of a number, and of a text
abbrev pub numeral_in : ℕ → List ℕ → List ℕ
numeral_in width numeral = padded_integral (format_spec 32 3 0 width 18446744073709551615) false [] numeral

abbrev pub text_in : ℕ → List ℕ → List ℕ
text_in width text = padded (format_spec 32 3 0 width 18446744073709551615) text

pub numeral_aligned : (width : ℕ) (numeral : List ℕ) → numeral_in width numeral ≡ aligned width numeral
unfolding padded_integral char_count encode
numeral_aligned width numeral =
    let margin = width - length numeral - 0 - 0 in
    let before : margin ≡ width - length numeral = omega arith in
    let after : margin - margin ≡ 0 = omega arith in
    rw (after, before, repeat_one (width - length numeral) 32) (simp append-nil)

-- of a text that has as many characters as bytes, fewer than a format could cut off
pub text_aligned : (width : ℕ) (text : List ℕ) → take_chars 18446744073709551615 text ≡ text → char_count text ≡ length text → text_in width text ≡ aligned width text
unfolding padded encode
text_aligned width text whole counted =
    let margin = width - length text in
    let after : margin - margin ≡ 0 = omega arith in
    rw (whole, counted, after, repeat_one margin 32) (simp append-nil)

-- a word in place of some numbers
pub word_or_numeral_aligned : (width : ℕ) (word numeral : List ℕ) → take_chars 18446744073709551615 word ≡ word → char_count word ≡ length word → (worded : Bool) → cond worded (text_in width word) (numeral_in width numeral) ≡ aligned width (cond worded word numeral)
word_or_numeral_aligned width word numeral whole counted true = text_aligned width word whole counted
word_or_numeral_aligned width word numeral whole counted false = numeral_aligned width numeral
