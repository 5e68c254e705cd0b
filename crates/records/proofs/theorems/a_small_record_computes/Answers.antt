use Rattle.std.proofs.Common.{refl}
use Rattle.figures.specs.Brackets.{pick, champion}
use Rattle.records.specs.Records.{record_words}
use Rattle.records.proofs.theorems.a_small_record_computes.Goals as goal

pub returns : goal.returns
unfolding pick champion record_words
returns c = record { words_of_four = refl }
