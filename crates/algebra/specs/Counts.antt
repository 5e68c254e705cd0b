-- Counts of draws keep the laws of an algebra. Assumes nothing.
use Rattle.std.specs.Prelude.{◌≡◌, ◌≤◌, refl}
use Rattle.std.proofs.Common.{ap, arith}
use mathlib.Core.HLevel.{is_prop→PathP}
use Rattle.std.proofs.Math.Bridge.{le_prop}
use Rattle.std.proofs.lemmas.Bool.{eqb-true, eq-eqb}
use Rattle.algebra.specs.Semirings.{LawfulSemiring}
use Rattle.algebra.specs.Drawing.{Count, drawing}
use Rattle.algebra.specs.Cuts.{cut_regroups, cut_spreads}

-- A count is its number.
pub same_count : (x y : Count) → x.number ≡ y.number → x ≡ y
same_count x y e = λ i. record {
  number = e i;
  within = is_prop→PathP (λ j. e j ≤ 999999999) (λ j. le_prop) x.within y.within i;
}

pub counts_lawful : LawfulSemiring drawing
counts_lawful = record {
  plus_assoc = λ x y z. same_count _ _ (omega arith);
  plus_comm = λ x y. same_count _ _ (omega arith);
  plus_nothing = λ x. same_count _ _ (omega arith);
  times_assoc = λ x y z. same_count _ _ (cut_regroups 999999999 x.number y.number z.number);
  times_comm = λ x y. same_count _ _ (omega arith);
  times_one = λ x. same_count _ _ (omega arith);
  times_plus = λ x y z. same_count _ _ (cut_spreads 999999999 x.number y.number z.number);
  times_nothing = λ x. same_count _ _ (omega arith);
  same_exactly = λ x y. (
    (λ e. same_count x y (eqb-true x.number y.number e)),
    (λ e. eq-eqb x.number y.number (ap (λ (c : Count). c.number) e)),
  );
  weight_never = refl;
}
