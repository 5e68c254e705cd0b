use Rattle.records.proofs.Deciding.{refused_exactly}
use Rattle.records.proofs.theorems.refused_exactly_where_no_bracket_is_recorded.Goals as goal

pub returns : goal.returns
returns c = record { refused_exactly = refused_exactly }
