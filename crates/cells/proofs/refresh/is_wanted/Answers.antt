use Rattle.std.proofs.Common.{◌≡◌, false, ◌&&◌, eqb, sym, ap, ◌∙◌}
use lib.Bits.{bit_and}
use lib.Count.{ones}
use Rattle.std.proofs.lemmas.Bool.{eq-eqb, ne_eqb}
use Rattle.cells.specs.Renewal.{wanted}
use Rattle.cells.proofs.refresh.is_wanted.Goals as goal

pub returns-then-set-size : goal.returns-then-set-size
unfolding wanted
returns-then-set-size c =
    record { says_whether_it_is_wanted = sym (ap (λ b. b && eqb (bit_and c.args.set c.args.must) c.args.must) (eq-eqb _ _ c.if-set-size.true)) }

pub returns-else-set-size : goal.returns-else-set-size
unfolding wanted
returns-else-set-size c =
    let none : eqb (ones c.args.set) c.args.size ≡ false = ne_eqb _ _ c.if-set-size.false in
    record { says_whether_it_is_wanted = none ∙ sym (ap (λ b. b && eqb (bit_and c.args.set c.args.must) c.args.must) none) }
