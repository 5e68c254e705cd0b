use Rattle.std.proofs.Common.{◌≡◌, ℕ, ◌+◌, ◌*◌, ◌%◌, ◌^◌, ap, ◌∙◌, subst, arith}
use Rattle.std.proofs.lemmas.Nat.{one_shl}
use Rattle.facts.proofs.Refusing.{legal_some}
use Rattle.cells.specs.Renewal.{Renewal}
use Rattle.cells.specs.Splits.{sum_of}
use Rattle.cells.proofs.Renewing.{next_set, no_set, same_after, sets_below}
use Rattle.cells.proofs.Weighing.{refreshed}
use Rattle.cells.proofs.refresh.refresh_level.Goals as goal
use Rattle.cells.proofs.refresh.refresh_level.Goals.{then-is_wanted, else-is_wanted}

pub loop-set-preserved : goal.loop-set-preserved
loop-set-preserved g c =
    let m = g.V.Algebra in
    let A = m.semiring in
    let n = c.args.size.entrants in
    let some = (legal_some n c.args.size.legal).0 in
    let i = c.loop-set.set in
    let grid = c.args.weights.now in
    let xs = c.args.memory.now in
    let ys = c.loop-set.memory in
    let D = sets_below c.args.members c.args.must (i + 1) in
    let sum = sum_of A m.means n grid xs in
    elim c.if-is_wanted.branch [
      | then-is_wanted y ↦
          same_after A m.means n some grid D sum xs y.refresh_set.new.memory c.if-is_wanted.memory y.memory-is
          (next_set A m.means n some grid c.args.members c.args.must i xs ys y.refresh_set.new.memory y.if-is_wanted.ensures.says_whether_it_is_wanted c.loop-set.invariant y.refresh_set.ensures.each_member_has_his_sum_and_no_other_cell_changes)
      | else-is_wanted y ↦
          same_after A m.means n some grid D sum xs ys c.if-is_wanted.memory y.memory-is
          (no_set A m.means n some grid c.args.members c.args.must i xs ys y.if-is_wanted.ensures.says_whether_it_is_wanted c.loop-set.invariant)
    ]

pub returns : goal.returns
returns g c =
    let m = g.V.Algebra in
    let n = c.args.size.entrants in
    let p = legal_some n c.args.size.legal in
    let few = p.1 in
    let top = ap (λ k. 1 * 2 ^ k % 2 ^ 32) c.entrants.ensures.is_how_many_there_are ∙ one_shl n 32 (omega arith) in
    let end : c.loop-set.set ≡ 2 ^ n = omega (arith, top, c.loop-set-test.false, c.loop-set.auto.set-end) in
    let P : ℕ → Type 0 = λ i. Renewal m.semiring m.means n (sets_below c.args.members c.args.must i) (sum_of m.semiring m.means n c.args.weights.now c.args.memory.now) c.args.memory.now c.loop-set.memory in
    record { renews_the_sets_of_that_size_alone = refreshed m.semiring m.means n c.args.members c.args.must c.args.weights.now c.args.memory.now c.loop-set.memory p.0 (subst P end c.loop-set.invariant) }
