-- A sheet as it is held: one pair of facts for each two entrants, at the place of their numbers.
use Rattle.std.specs.Prelude.{ℕ, ◌+◌, ◌*◌, min, max, Bool, cond, List, map, None, Option, nat_lt, slice_index_or}
use Rattle.facts.specs.Fields.{opponents}
use Rattle.facts.specs.Sheets.{Sheet}

-- the row of the lower number and the column of the higher, in a square of sixteen
abbrev pub place_of : ℕ → ℕ → ℕ
place_of a b = min a b * 16 + max a b

-- facts of a lower and a higher number, told for a and then for b; and back
abbrev pub turned : ℕ → ℕ → Option ℕ × Option ℕ → Option ℕ × Option ℕ
turned a b facts = cond (nat_lt a b) facts (facts.1, facts.0)

abbrev pub held_sheet : (ℕ → ℕ → Option ℕ → Option ℕ → Bool) → ℕ → List (Option ℕ × Option ℕ) → Sheet
held_sheet carries n held =
    record {
      size = n;
      beats = λ a b. cond (opponents n a b) (turned a b (slice_index_or held (place_of a b) (None, None))).0 None;
      carries = carries;
    }

-- what a square of n entrants means, by what is kept at each place and the facts that this tells
abbrev pub square_sheet : {K : Type 0} → (K → Option ℕ × Option ℕ) → (ℕ → ℕ → Option ℕ → Option ℕ → Bool) → ℕ → List K → Sheet
square_sheet told carries n kept = held_sheet carries n (map told kept)

-- the sheet on which every two entrants have the same facts, the lower number's first
abbrev pub uniform_sheet : (ℕ → ℕ → Option ℕ → Option ℕ → Bool) → ℕ → Option ℕ × Option ℕ → Sheet
uniform_sheet carries n facts =
    record {
      size = n;
      beats = λ a b. cond (opponents n a b) (turned a b facts).0 None;
      carries = carries;
    }
