use Rattle.figures.proofs.Writings.{lowest_first_once}
use Rattle.figures.proofs.theorems.one_writing_has_the_lowest_first.Goals as goal

pub returns : goal.returns
returns c = record { lowest_first_once = lowest_first_once }
