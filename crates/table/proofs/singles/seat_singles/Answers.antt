use Rattle.std.proofs.Common.{ℕ, ◌+◌, ◌*◌, ◌%◌, ◌^◌, ◌<◌, ◌≤◌, length, sym, refl, ap, ◌∙◌, subst, arith, rules}
use Rattle.std.proofs.lemmas.Nat.{one_shl, pow_below}
use Rattle.cells.specs.Rooms.{needed}
use Rattle.table.proofs.Seating.{one_seated}
use Rattle.table.proofs.Roomy.{some, few}
use Rattle.table.proofs.singles.seat_singles.Goals as goal

-- the set of one entrant, as the code has it, is one of the sets of n
single : (n e : ℕ) → n ≤ 16 → e < n → (1 * 2 ^ e) % 2 ^ 32 < 2 ^ n
single n e few l = omega (arith, one_shl e 32 (omega arith), pow_below e n l)

pub bounds-memory-index_of : goal.bounds-memory-index_of
bounds-memory-index_of g c =
    let n = c.entrants-n.result in
    let l = c.loop-entrant-test.true in
    let same = c.entrants-n.ensures.is_how_many_there_are in
    let fewer : n ≤ 16 = omega (arith, few c.args.size) in
    let room : needed n ≤ length c.args.memory.now = subst (λ (k : ℕ). needed k ≤ length c.args.memory.now) (sym same) c.requires in
    omega (arith, c.index_of.ensures.is_within_the_needed_cells fewer (single n c.loop-entrant.entrant fewer l) l, room, c.loop-entrant.auto.memory)

pub offset_bounds-memory-index_of : goal.offset_bounds-memory-index_of
offset_bounds-memory-index_of g c = let u = bounds-memory-index_of g c in search rules

pub loop-entrant-preserved : goal.loop-entrant-preserved
loop-entrant-preserved g c =
    let m = g.V.Algebra in
    let n = c.entrants-n.result in
    let e = c.loop-entrant.entrant in
    let l = c.loop-entrant-test.true in
    let fewer : n ≤ 16 = omega (arith, few c.args.size) in
    one_seated m.semiring m.means n (omega (arith, some c.args.size)) e c.index_of.result c.one.result c.args.memory.now c.loop-entrant.memory _ l (bounds-memory-index_of g c)
    (c.index_of.ensures.is_the_index_of_that_cell fewer (single n e fewer l) l ∙ ap (λ (x : ℕ). x * n + e) (one_shl e 32 (omega arith))) c.one.ensures.means_one refl c.loop-entrant.invariant
