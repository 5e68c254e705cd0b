use Rattle.std.proofs.Common.{◌≡◌, ℕ, ◌-◌, ◌*◌, ◌≤◌, length, take, drop, sym, ap, ◌∙◌, subst, arith, pow_pos}
use Rattle.std.proofs.lemmas.Nat.{one_shl}
use Rattle.facts.proofs.Refusing.{passed, answered_so}
use Rattle.cells.proofs.Fitting.{roomy}
use Rattle.cells.specs.Rooms.{needed}
use Rattle.table.specs.Questions.{OfAll, everybody}
use Rattle.table.proofs.Roomy.{some, few}
use Rattle.table.proofs.Rows.{of_all}
use Rattle.table.proofs.stages.Complete.final_cells.Goals as goal

pub returns : goal.returns
returns g c =
    let m = g.V.Algebra in
    let size = c.args.self.now.size in
    let n = c.entrants-n.result in
    let xs = c.args.cells.now.memory.now in
    let fewer : n ≤ 16 = omega (arith, few size) in
    let shl = one_shl n 32 (omega arith) in
    let at = c.index_of.ensures.is_the_index_of_that_cell fewer (omega (arith, shl, pow_pos n)) (omega (arith, some size)) in
    let from : c.index_of.result ≡ everybody n * n = at ∙ omega arith ∙ ap (λ (x : ℕ). (x - 1) * n) shl in
    let same = c.entrants-n.ensures.is_how_many_there_are in
    let none = passed _ c.in_ok-check_room.ensures.refuses_a_memory_that_is_too_short in
    let room = roomy size.entrants (length xs) none in
    let all = subst (λ (k : ℕ). OfAll m.semiring m.means k xs (take n (take (length xs - c.index_of.result) (drop c.index_of.result xs)))) same (of_all m.semiring m.means n c.index_of.result xs from (subst (λ (k : ℕ). needed k ≤ length xs) (sym same) room)) in
    record { are_those_of_all_or_the_memory_is_too_short = answered_so _ _ _ (sym none) all }
