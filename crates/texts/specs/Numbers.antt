-- How a number is written in every text of this crate: in decimal, with no sign, no separators and no leading zero.
use Rattle.std.specs.Prelude.{ℕ, List}
use Rattle.std.specs.Fmt as written

abbrev pub decimal : ℕ → List ℕ
decimal n = written.decimal n
