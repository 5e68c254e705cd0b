-- Sets of entrants. A set is a number: the sum of 2 ^ e over its members e. Its size is the number of ones that it has
-- in binary, `ones`.
use Rattle.std.specs.Prelude.{◌≡◌, ℕ, suc, ◌*◌, ◌/◌, ◌%◌, ◌^◌, ◌≤◌, Bool, true, ◌&&◌, List, filter, ◌==◌, bit_and, count_ones, slice_index}
use Rattle.std.specs.List.{range_with_len}
use Rattle.figures.specs.Fields.{Field}

-- whether e is a member of s
unfoldable pub has : ℕ → ℕ → Bool
has s e = s / 2 ^ e % 2 == 1

-- e is a member of s
abbrev pub Member : ℕ → ℕ → Type 0
Member s e = has s e ≡ true

-- e is the lowest member of s
abbrev pub Lowest : ℕ → ℕ → Type 0
Lowest s e = Member s e × ((x : ℕ) → Member s x → e ≤ x)

-- a and b share nobody
abbrev pub Apart : ℕ → ℕ → Type 0
Apart a b = bit_and a b ≡ 0

-- whether every member of a is one of s
unfoldable pub sub : ℕ → ℕ → Bool
sub a s = bit_and a s == a

-- whether a is a half of s: it has half of the members of s, and no others
unfoldable pub half : ℕ → ℕ → Bool
half s a = sub a s && 2 * count_ones a == count_ones s

-- the entrants of the field who are members of s, rising
unfoldable pub members : Field → ℕ → List ℕ
members f s = filter (has s) (range_with_len 0 f.size)

-- the lowest of them, and 0 where there is none
unfoldable pub lowest : Field → ℕ → ℕ
lowest f s = slice_index (members f s) 0

-- the members of s whom a number of 32 digits can have, rising
unfoldable pub all_members : ℕ → List ℕ
all_members s = filter (has s) (range_with_len 0 32)

-- The halves of s that hold e, by rising number. Whatever takes halves takes them from here: a field that allowed fewer
-- of them would change this definition, and no other.
unfoldable pub halves : Field → ℕ → ℕ → List ℕ
halves f s e = filter (λ a. half s a && has a e) (range_with_len 0 (suc s))
