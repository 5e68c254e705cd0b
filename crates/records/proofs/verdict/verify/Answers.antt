use Rattle.std.proofs.Common.{length, ◌≡◌, ◌∙◌, arith}
use Rattle.std.proofs.lemmas.Result.{err_from_is_err_and}
use Rattle.facts.specs.declared.refusals.Refusal.TheVariants.{RecordLengthWrong}
use Rattle.facts.proofs.Refusing.{answered_then, answered_back}
use Rattle.figures.specs.Fields.{field_of}
use Rattle.records.specs.Records.{word_count}
use Rattle.records.proofs.Judged.{wrong_length, right_length, none_accepted, accepted, refused_by}
use Rattle.records.proofs.verdict.verify.Goals as goal

pub returns-then-words-size-clause-accepts_exactly_the_records : goal.returns-then-words-size-clause-accepts_exactly_the_records
returns-then-words-size-clause-accepts_exactly_the_records g c =
    let f = field_of (g.S.MatchSource.sheet c.args.source.now) in
    let ws = c.args.words.now in
    none_accepted g.V.Algebra.means g.V.Algebra.semiring g.met.V.Algebra.lawful f (g.met.S.MatchSource.lawful c.args.source.now).size_legal ws
    RecordLengthWrong (wrong_length f.size ws (λ e. c.if-words-size.true (omega arith)))

pub returns-in_err-weight : goal.returns-in_err-weight
returns-in_err-weight g c =
    let f = field_of (g.S.MatchSource.sheet c.args.source.now) in
    let ws = c.args.words.now in
    let long : length ws ≡ word_count f.size = omega arith in
    let e = c.in_err-weight.field-0.0 in
    let p = err_from_is_err_and c.from_residual.result c.from_residual.ensures.1 in
    let refused = right_length f.size ws long ∙ answered_back _ _ e c.in_err-weight.ensures in
    rw (p.1, p.2) (record {
      accepts_exactly_the_records =
          none_accepted g.V.Algebra.means g.V.Algebra.semiring g.met.V.Algebra.lawful f (g.met.S.MatchSource.lawful c.args.source.now).size_legal ws e refused;
      refuses_by_the_first_reason = refused_by f.size ws e refused;
    })

pub returns-clause-accepts_exactly_the_records : goal.returns-clause-accepts_exactly_the_records
returns-clause-accepts_exactly_the_records g c =
    let f = field_of (g.S.MatchSource.sheet c.args.source.now) in
    let ws = c.args.words.now in
    let long : length ws ≡ word_count f.size = omega arith in
    let found = answered_then _ _ c.in_ok-weight.weight c.in_ok-weight.ensures in
    accepted g.V.Algebra.means g.V.Algebra.semiring g.met.V.Algebra.lawful f (g.met.S.MatchSource.lawful c.args.source.now).size_legal ws
    c.champion_of.result c.in_ok-weight.weight (right_length f.size ws long ∙ found.0) c.champion_of.ensures found.1
