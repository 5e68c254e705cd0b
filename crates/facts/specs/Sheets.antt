-- A sheet as a meaning: what every match source comes down to.
use Rattle.std.specs.Prelude.{◌≡◌, ℕ, Bool, true, false, cond, ◌&&◌, None, Option, ◌==◌}
use Rattle.facts.specs.Facts.{over_top, one_free}
use Rattle.facts.specs.Fields.{legal, opponents}

pub record Sheet : Type 0 where
  -- how many entrants there are
  pub size : ℕ
  -- what it takes for the first entrant to beat the second
  pub beats : ℕ → ℕ → Option ℕ
  -- which pairings can be put in: entrants a and b, what it takes for a to beat b, and for b to beat a
  pub carries : ℕ → ℕ → Option ℕ → Option ℕ → Bool

-- the laws of every sheet
pub record Lawful (s : Sheet) : Type 0 where
  pub size_legal : legal s.size ≡ true
  -- nobody beats himself, and nobody from outside the field beats or is beaten
  pub never_outside : (a b : ℕ) → opponents s.size a b ≡ false → s.beats a b ≡ None
  pub capped : (a b : ℕ) → over_top (s.beats a b) ≡ false
  pub side_free : (a b : ℕ) → opponents s.size a b ≡ true → one_free (s.beats a b) (s.beats b a) ≡ true
  pub carried_either_way : (a b : ℕ) (f g : Option ℕ) → s.carries a b f g ≡ s.carries b a g f

-- two sheets that nothing tells apart
pub record SameSheet (s t : Sheet) : Type 0 where
  pub size : s.size ≡ t.size
  pub beats : (a b : ℕ) → s.beats a b ≡ t.beats a b
  pub carries : (a b : ℕ) (f g : Option ℕ) → s.carries a b f g ≡ t.carries a b f g

-- the sheet with the pairing of a and b put in: f for a over b, g for b over a
abbrev pub amended : Sheet → ℕ → ℕ → Option ℕ × Option ℕ → Sheet
amended s a b facts =
    record {
      size = s.size;
      beats = λ i j. cond (i == a && j == b) facts.0 (cond (i == b && j == a) facts.1 (s.beats i j));
      carries = s.carries;
    }
