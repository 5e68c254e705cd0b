use Rattle.figures.proofs.Small.{small_fields}
use Rattle.figures.proofs.theorems.small_fields_compute.Goals as goal

pub returns : goal.returns
returns c = record { draws_of_four = small_fields }
