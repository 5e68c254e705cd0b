use Rattle.records.proofs.Deciding.{told_apart}
use Rattle.records.proofs.theorems.records_tell_brackets_apart.Goals as goal

pub returns : goal.returns
returns c = record { told_apart = told_apart }
