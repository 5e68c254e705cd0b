-- What one word of a sheet says, and the 32 bits that say it. The top three bits are the word's kind.
use Rattle.std.specs.Prelude.{ℕ, ◌+◌, ◌*◌, ◌/◌, ◌%◌, ◌^◌, ◌<◌, Bool, true, false, cond, Some, None, Option, ◌==◌}
use Rattle.sheets.specs.declared.words.Word.{Word}
use Rattle.sheets.specs.declared.words.Word.TheVariants.{Head, Price, Upset, Outcome, Stray}

-- what a price says beside a mark of a win that no price buys: no fact where the mark stands beside a price
abbrev pub fact_of : ℕ → Bool → Option (Option ℕ)
fact_of price true = cond (price == 0) (Some None) None
fact_of price false = Some (Some price)

-- a price, or the mark in its bit
abbrev pub price_bits : Option ℕ → ℕ
price_bits None = 2 ^ 28
price_bits (Some price) = price

-- the prices that a word has room for
abbrev pub Fitting-fact : Option (Option ℕ) → Type 0
Fitting-fact None = Unit {0}
Fitting-fact (Some None) = Unit {0}
Fitting-fact (Some (Some price)) = price < 2 ^ 20

-- the fields that a word has room for
abbrev pub Fitting : Word → Type 0
Fitting (Head size source) = (size < 32) × (source < 4)
Fitting (Price winner loser fact) = (winner < 16) × (loser < 16) × Fitting-fact fact
Fitting (Upset winner loser) = (winner < 16) × (loser < 16)
Fitting (Outcome winner loser) = (winner < 16) × (loser < 16)
Fitting Stray = Unit {0}

-- kind 2: size in bits 4 to 0, source in 6 to 5; kind 3: price in 19 to 0, loser in 23 to 20, winner in 27 to 24, the mark in 28;
-- kind 5, an upset, and kind 6, an outcome: winner in 3 to 0, loser in 7 to 4. All other bits are 0. A stray word, and one of no fact, have no bits of their own.
abbrev pub bits_of : Word → ℕ
bits_of (Head size source) = 2 * 2 ^ 29 + source * 2 ^ 5 + size
bits_of (Price winner loser (Some fact)) = 3 * 2 ^ 29 + winner * 2 ^ 24 + loser * 2 ^ 20 + price_bits fact
bits_of (Price winner loser None) = 0
bits_of (Upset winner loser) = 5 * 2 ^ 29 + loser * 2 ^ 4 + winner
bits_of (Outcome winner loser) = 6 * 2 ^ 29 + loser * 2 ^ 4 + winner
bits_of Stray = 0

-- the word that the bits say: a stray one where the kind is another or an unused bit is set
abbrev pub word_of : ℕ → Word
word_of bits =
    cond (bits / 2 ^ 29 == 2) (cond (bits / 2 ^ 7 % 2 ^ 22 == 0) (Head (bits % 2 ^ 5) (bits / 2 ^ 5 % 2 ^ 2)) Stray)
    (cond (bits / 2 ^ 29 == 3) (Price (bits / 2 ^ 24 % 2 ^ 4) (bits / 2 ^ 20 % 2 ^ 4) (fact_of (bits % 2 ^ 20) (bits / 2 ^ 28 % 2 == 1)))
    (cond (bits / 2 ^ 29 == 5) (cond (bits / 2 ^ 8 % 2 ^ 21 == 0) (Upset (bits % 2 ^ 4) (bits / 2 ^ 4 % 2 ^ 4)) Stray)
    (cond (bits / 2 ^ 29 == 6) (cond (bits / 2 ^ 8 % 2 ^ 21 == 0) (Outcome (bits % 2 ^ 4) (bits / 2 ^ 4 % 2 ^ 4)) Stray)
    Stray)))
