use Rattle.std.proofs.Common.{◌≡◌, false, map, slice_index_or}
use Rattle.table.specs.Questions.{set_of}
use Rattle.table.proofs.winners.collect_winners.Given as goal

abbrev pub invariant-loop-entrant : goal.invariant-loop-entrant
invariant-loop-entrant l = l.winners ≡ set_of l.entrant (λ w. slice_index_or (map (λ p. p.possible) l.figures) w false)
