use Rattle.std.proofs.Common.{◌≡◌, replicate, string_bytes}
use Rattle.texts.proofs.columns.right_aligned.Given as goal

-- as many spaces as turns
abbrev pub invariant-loop : goal.invariant-loop
invariant-loop l = string_bytes l.cell ≡ replicate l.counter 32
