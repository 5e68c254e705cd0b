-- Passages: how one algebra leads to another.
use Rattle.std.specs.Prelude.{◌≡◌, Bool, nat_lt}
use Rattle.facts.specs.Facts.{free}
use Rattle.algebra.specs.Semirings.{Semiring, Keeps}
use Rattle.algebra.specs.Drawing.{Count}
use Rattle.algebra.specs.Bribing.{Cost}

-- One map of meanings, which keeps the operations, leads everywhere: where the value v passes into w, what w means is
-- what the map makes of the meaning of v.
pub record Leads {V W M N : Type 0} (means : V → M) (s : Semiring M) (meant : W → N) (t : Semiring N) (passes : V → W → Type 0) : Type 0 where
  pub map : M → N
  pub keeps : Keeps s t map
  pub led : (v : V) (w : W) → passes v w → meant w ≡ map (means v)

-- from draws to possibility: there is a draw
abbrev pub any_draw : Count → Bool
any_draw x = nat_lt 0 x.number

-- from bribe to possibility: it costs nothing
abbrev pub unpaid : Cost → Bool
unpaid x = free x.price
