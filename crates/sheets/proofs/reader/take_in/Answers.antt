use Rattle.std.proofs.Common.{◌≡◌, ◌%◌, ◌<◌, length, Err, ap, ◌∙◌, arith}
use Rattle.std.proofs.lemmas.Bool.{ltb-true, ltb-false, eqb-true, eqb-false}
use Rattle.std.proofs.lemmas.Result.{err_from_is_err_and}
use Rattle.sheets.specs.Machine.{Ended}
use Rattle.sheets.specs.Reading.{read_of}
use Rattle.sheets.proofs.Onward.{read_chunked, put_in, refused}
use Rattle.sheets.proofs.reader.take_in.Goals as goal
use Rattle.sheets.proofs.reader.take_in.Goals.{After-scan}

whole : (c : After-scan) → Ended (read_of c.args.bytes.now) c.scan.result
whole c =
    let chunks = c.as_chunks.result.0.now in
    let some : 0 < length c.as_chunks.result.0.now = omega (arith, ltb-true, ltb-false, eqb-true, eqb-false) in
    let none_left : length c.args.bytes.now % 4 ≡ 0 = omega (arith, ltb-true, ltb-false, eqb-true, eqb-false) in
    let is = read_chunked c.args.bytes.now chunks c.as_chunks.ensures.front c.as_chunks.ensures.front_len some none_left in
    rw is c.scan.ensures

pub returns-in_err-scan : goal.returns-in_err-scan
returns-in_err-scan c =
    let p = err_from_is_err_and c.from_residual.result c.from_residual.ensures.1 in
    let t = refused (read_of c.args.bytes.now) c.in_err-scan.field-0.0 c.args.sources.now (rw c.in_err-scan.was at (whole (goal.at.returns-in_err-scan c).After-scan)) in
    record { answer = p.1 ∙ ap Err p.2 ∙ t.0; left = t.1 }

pub returns : goal.returns
returns c =
    let t = put_in (read_of c.args.bytes.now) c.in_ok-scan.field-0 c.put_into.result c.args.sources.now c.put_into.new.sources (rw c.in_ok-scan.was at (whole (goal.at.returns c).After-scan)) c.put_into.ensures in
    record { answer = t.0; left = t.1 }
