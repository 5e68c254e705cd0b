use Rattle.std.proofs.Common.{arith}
use Rattle.sheets.proofs.Acceptance.{exactly}
use Rattle.sheets.proofs.reader.read.Goals as goal

pub returns : goal.returns
returns c =
    let t = exactly c.args.bytes.now (λ i. let fits = c.type_inv.bytes i in omega arith) c.take_in.result c.args.sources.now c.take_in.new.sources c.take_in.ensures.answer c.take_in.ensures.left in
    record {
      accepts_what_a_sheet_says = t.0;
      accepts_nothing_else = t.1;
      answers_by_the_first_refusal = c.take_in.ensures.answer;
      sets_the_source_of_its_kind_or_nothing = c.take_in.ensures.left;
    }
