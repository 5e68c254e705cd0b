use Rattle.std.proofs.Common.{sym, refl, ◌∙◌, arith}
use Rattle.std.proofs.lemmas.Bool.{le-ltb}
use Rattle.figures.specs.Sets.{has}
use Rattle.figures.proofs.Members.{beyond}
use Rattle.figures.proofs.sets.holds.Goals as goal

pub returns-then-entrant-lt32 : goal.returns-then-entrant-lt32
unfolding has
returns-then-entrant-lt32 c = record { says_whether_he_is_a_member = refl }

pub returns-else-entrant-lt32 : goal.returns-else-entrant-lt32
returns-else-entrant-lt32 c =
    record { says_whether_he_is_a_member = le-ltb c.args.entrant 32 c.if-entrant-lt32.false ∙ sym (beyond 32 c.args.set c.args.entrant (omega arith) c.if-entrant-lt32.false) }
