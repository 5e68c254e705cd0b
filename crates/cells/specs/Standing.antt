-- How a walk through the halves of a set stands.
use Rattle.std.specs.Prelude.{◌≡◌, ℕ, ◌-◌, ◌*◌, ◌/◌, ◌^◌, ◌<◌, Bool, ◌&&◌, List, drop, filter, bit_and, count_ones}
use Rattle.std.specs.List.{range_with_len}
use Rattle.figures.specs.Fields.{Field}
use Rattle.figures.specs.Sets.{has, Member, half, halves}

-- whether a is a half of s that holds e
abbrev pub holding : ℕ → ℕ → ℕ → Bool
holding s e a = half s a && has a e

-- those that are at least s - r, by rising number; s itself is left out, since a whole is no half
unfoldable pub from : ℕ → ℕ → ℕ → List ℕ
from s e r = filter (holding s e) (range_with_len (s - r) r)

-- r is a part of the others, who are the members of s but for e, and a half of s has the wanted size
abbrev pub Trying : ℕ → ℕ → ℕ → ℕ → ℕ → Type 0
Trying s e others wanted r = Member s e × (others ≡ s - 2 ^ e) × (bit_and r others ≡ r) × (2 * wanted ≡ count_ones s)

-- where p halves were given, those that are left are those from r on, whatever the field
abbrev pub LeftFrom : ℕ → ℕ → ℕ → ℕ → Type 0
LeftFrom s e r p = (f : Field) → drop p (halves f s e) ≡ from s e r

-- a walk may begin at the rest r, with r as the others
abbrev pub Start : ℕ → ℕ → ℕ → Type 0
Start s e r = (0 < r → Trying s e r (count_ones s / 2) r) × LeftFrom s e r 0
