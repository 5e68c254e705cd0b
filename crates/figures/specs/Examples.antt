-- Two small fields.
use Rattle.std.specs.Prelude.{◌≡◌, ℕ, cond, List, [], ◌∷◌, map, Some, None, ◌==◌, nat_lt}
use Rattle.algebra.specs.Drawing.{drawing}
use Rattle.figures.specs.Fields.{Field}
use Rattle.figures.specs.Figures.{figure}

-- n entrants in order: the lower number always wins
abbrev pub in_order : ℕ → Field
in_order n = record { size = n; beats = λ a b. cond (nat_lt a b) (Some 0) None }

-- n entrants with every upset: either of two may win
abbrev pub every_upset : ℕ → Field
every_upset n = record { size = n; beats = λ a b. cond (a == b) None (Some 0) }

-- the draws of each of four entrants, 15 being the set of all four
abbrev pub draws_of_four : Field → List ℕ
draws_of_four f = map (λ w. (figure drawing f 15 w).number) (0 ∷ 1 ∷ 2 ∷ 3 ∷ [])

-- In order, each of the three brackets goes to the first; with every upset, each of the four wins in six ways.
pub record SmallFields : Type 0 where
  pub orderly : draws_of_four (in_order 4) ≡ 3 ∷ 0 ∷ 0 ∷ 0 ∷ []
  pub upset : draws_of_four (every_upset 4) ≡ 6 ∷ 6 ∷ 6 ∷ 6 ∷ []
