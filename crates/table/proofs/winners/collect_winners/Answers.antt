use Rattle.std.proofs.Common.{◌^◌, ◌<◌, ◌≤◌, false, map, slice_index_or, arith, pow_mono}
use Rattle.std.proofs.lemmas.Nat.{one_shl}
use Rattle.table.proofs.Asked.{set_below}
use Rattle.table.proofs.winners.collect_winners.Goals as goal

pub overflow_add-winners : goal.overflow_add-winners
overflow_add-winners c =
    let w = c.loop-entrant.entrant in
    let l : w < 16 = omega (arith, c.loop-entrant-test.true, c.requires) in
    let shl = one_shl w 32 (omega arith) in
    let top : 2 ^ w ≤ 2 ^ 16 = pow_mono {j = 16} (omega arith) in
    omega (arith, shl, top, c.loop-entrant.invariant, set_below w (λ v. slice_index_or (map (λ p. p.possible) c.args.figures.now) v false))
