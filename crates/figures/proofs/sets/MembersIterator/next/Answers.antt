use Rattle.std.proofs.Common.{length, ap, arith}
use Rattle.figures.proofs.Members.{all_none, first_of_all}
use Rattle.figures.proofs.sets.MembersIterator.next.Goals as goal

pub returns-then-self-eq0-clause-steps : goal.returns-then-self-eq0-clause-steps
returns-then-self-eq0-clause-steps c = let none = all_none c.args.self.now.left c.if-self-eq0.true in (none, none)

pub returns-clause-steps : goal.returns-clause-steps
returns-clause-steps c = first_of_all c.args.self.now.left (omega arith) (omega arith)

pub returns-clause-goes : goal.returns-clause-goes
returns-clause-goes c =
    let e = first_of_all c.args.self.now.left (omega arith) (omega arith) in
    record { on = λ h. (tt, tt, omega (arith, ap length e)); keeps = tt; rests = λ h. tt }
