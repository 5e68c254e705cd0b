-- Possibility keeps the laws of an algebra. Assumes nothing.
use Rattle.std.specs.Prelude.{true, false, refl}
use Rattle.std.proofs.Common.{inl, inr, rules}
use Rattle.algebra.specs.Semirings.{LawfulSemiring, Chooses}
use Rattle.algebra.specs.Possibilities.{possibilities}

pub possibilities_lawful : LawfulSemiring possibilities
possibilities_lawful = search rules

-- A sum of two possibilities is one of them.
pub possibilities_choose : Chooses possibilities
possibilities_choose true y = inl refl
possibilities_choose false y = inr refl
