-- What the cells of a report are at the right ends of their columns.
use Rattle.std.proofs.Common.{◌≡◌, ℕ, suc, ◌-◌, ◌≤◌, Bool, true, false, List, [], ◌∷◌, length, codes, Option, Some, None, ◌==◌, refl, ap, arith, lit<}
use Rattle.std.specs.Fmt.{take_chars, char_count}
use Rattle.std.proofs.lemmas.Bool.{lt-ltb, ltb-false, ne_eqb}
use Rattle.std.specs.Str.{IsAscii}
use Rattle.std.proofs.lemmas.Fmt.{IsAscii-decimal, length-decimal-le}
use Rattle.algebra.specs.Bribing.{dear, price_text}
use Rattle.texts.specs.Columns.{aligned}
use Rattle.texts.specs.Numbers.{decimal}
use Rattle.texts.proofs.Padded.{text_in, numeral_in, text_aligned, word_or_numeral_aligned}
use Rattle.reports.specs.Answers.{draws_text, draws_cell}
use Rattle.reports.specs.Entrants.{chance_text}

pub chance_aligned : (width : ℕ) (possible : Bool) → text_in width (chance_text possible) ≡ aligned width (chance_text possible)
unfolding take_chars char_count
chance_aligned width true = text_aligned width (codes "yes") refl refl
chance_aligned width false = text_aligned width (codes "no") refl refl

pub draws_aligned : (width number : ℕ) → draws_cell (text_in width) (λ n. numeral_in width (decimal n)) number ≡ aligned width (draws_text number)
unfolding take_chars char_count
draws_aligned width number = word_or_numeral_aligned width (codes "999999999+") (decimal number) refl refl (number == 999999999)

-- an ASCII text has as many characters as bytes
ascii_counted : (text : List ℕ) → IsAscii text → char_count text ≡ length text
unfolding char_count
ascii_counted [] ascii = refl
ascii_counted (b ∷ text) ascii = rw (lt-ltb b 128 (ascii 0), ascii_counted text (λ i. ascii (suc i))) (omega arith)

-- and keeps as many of them as it has
ascii_kept : (most : ℕ) (text : List ℕ) → IsAscii text → length text ≤ most → take_chars most text ≡ text
unfolding take_chars
ascii_kept most [] ascii short = refl
ascii_kept most (b ∷ text) ascii short =
    rw (lt-ltb b 128 (ascii 0), ne_eqb most 0 (omega (arith, short))) (ap (λ bs. b ∷ bs) (ascii_kept (most - 1) text (λ i. ascii (suc i)) (omega (arith, short))))

pub price_aligned : (width : ℕ) (price : Option ℕ) → dear price ≡ false → text_in width (price_text price) ≡ aligned width (price_text price)
unfolding take_chars char_count
price_aligned width None payable = text_aligned width (codes "none") refl refl
price_aligned width (Some price) payable =
    let below : price ≤ 999999999 = ltb-false 999999999 price payable in
    let ascii = IsAscii-decimal price (omega (arith, below)) in
    let short : length (decimal price) ≤ 10 = length-decimal-le 10 price (lit< tt) (omega (arith, below)) (omega (arith, below)) in
    text_aligned width (decimal price) (ascii_kept 18446744073709551615 (decimal price) ascii (omega (arith, short))) (ascii_counted (decimal price) ascii)
