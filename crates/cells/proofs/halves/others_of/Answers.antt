use Rattle.std.proofs.Common.{ℕ, ◌-◌, ◌^◌, sym, ap, arith}
use Rattle.std.proofs.lemmas.Nat.{one_shl}
use Rattle.std.proofs.lemmas.Bool.{both_ways}
use Rattle.figures.specs.Sets.{has}
use Rattle.figures.proofs.Bits.{part_le, bit_true, member_lt}
use Rattle.figures.proofs.Members.{one_part}
use Rattle.cells.proofs.Steps.{start_at, start_none}
use Rattle.cells.proofs.halves.others_of.Goals as goal
use Rattle.cells.proofs.halves.others_of.Goals.{else-holds-via-then-holds+else-set-eq0, else-holds-via-else-holds}

pub overflow_shl-result : goal.overflow_shl-result
overflow_shl-result c = member_lt 32 c.args.set c.args.entrant (omega arith) (bit_true c.args.set c.args.entrant (sym c.if-holds.ensures.says_whether_he_is_a_member))

pub overflow_sub-result : goal.overflow_sub-result
overflow_sub-result c =
    let h = sym c.if-holds.ensures.says_whether_he_is_a_member in
    let l = member_lt 32 c.args.set c.args.entrant (omega arith) (bit_true c.args.set c.args.entrant h) in
    omega (arith, one_shl c.args.entrant 32 l, part_le (2 ^ c.args.entrant) c.args.set (one_part c.args.set c.args.entrant h))

pub returns-then-set-eq0 : goal.returns-then-set-eq0
returns-then-set-eq0 c =
    let h = sym c.if-holds.ensures.says_whether_he_is_a_member in
    let l = member_lt 32 c.args.set c.args.entrant (omega arith) (bit_true c.args.set c.args.entrant h) in
    record { is_where_a_walk_begins = start_at c.args.set c.args.entrant _ h c.if-set-eq0.true (ap (λ (x : ℕ). c.args.set - x) (one_shl c.args.entrant 32 l)) }

pub returns-else-holds : goal.returns-else-holds
returns-else-holds c =
    record {
      is_where_a_walk_begins = start_none c.args.set c.args.entrant (elim c.else-holds.branch [
        | else-holds-via-then-holds+else-set-eq0 w ↦ λ _ k. w.if-set-eq0.false k
        | else-holds-via-else-holds w ↦ λ h _. both_ways (has c.args.set c.args.entrant) (sym w.if-holds.ensures.says_whether_he_is_a_member) h
      ]);
    }
