use Rattle.std.proofs.Common.{◌≤◌, sym, arith}
use Rattle.std.proofs.lemmas.Bool.{leb-true, leb-false}
use Rattle.algebra.specs.Costs.{held_plus, plus_first}
use Rattle.algebra.proofs.bribe.BribeChoosing.first_attains.Goals as goal

pub returns : goal.returns
returns c =
    let a = c.args.self.number in
    let b = c.args.other.number in
    record {
      yes_the_sum_means_the_first = λ e. sym (held_plus a b a (omega (arith, leb-true)));
      no_the_sum_means_the_second = λ e. sym (held_plus a b b (omega (arith, leb-false)));
      no_the_sum_does_not_mean_the_first = λ e same.
          let h : a ≤ b = plus_first a b c.args.self.within same in omega (arith, leb-false);
    }
