use Rattle.std.proofs.Common.{◌≡◌, ◌++◌, codes, string_bytes}
use Rattle.reports.specs.Winners.{spaced}
use Rattle.reports.proofs.winners.winners_line.Given as goal

-- the members so far
abbrev pub invariant-loop-entrant : goal.invariant-loop-entrant
invariant-loop-entrant l = string_bytes l.line ≡ codes "winners:" ++ spaced l.yielded
