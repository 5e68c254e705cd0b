use Rattle.std.proofs.Common.{◌≡◌, ◌*◌, length, take, drop, Ok, sym, refl, ap, ◌∙◌, arith}
use Rattle.std.proofs.lemmas.Bool.{lt-ltb, le-ltb, cond-true, cond-false}
use Rattle.std.proofs.lemmas.List.{take_at}
use Rattle.sheets.specs.Holdings.{sheet_at}
use Rattle.sheets.specs.Contents.{content_of}
use Rattle.sheets.specs.Writing.{bytes_for}
use Rattle.sheets.proofs.Standing.{held_sound, held_given}
use Rattle.sheets.proofs.Filling.{whole_length}
use Rattle.sheets.proofs.writer.write.Goals as goal

pub returns-then-buffer-size : goal.returns-then-buffer-size
returns-then-buffer-size c =
    let k = c.args.kind in
    let s = sheet_at k c.args.sources.now in
    let long = whole_length k s in
    let short = lt-ltb (length c.args.buffer.now) (length (bytes_for k s)) (omega (arith, long, c.count_words-size.ensures.0)) in
    record {
      says_that_source = λ n e. absurd (cc);
      answers_the_size_or_too_short = sym (cond-true _ _ _ short);
      writes_the_front_alone_or_nothing = sym (cond-true _ _ _ short);
    }

pub put_sheet-requires : goal.put_sheet-requires
put_sheet-requires c =
    let k = c.args.kind in
    let long = whole_length k (sheet_at k c.args.sources.now) in
    omega (arith, long, c.count_words-size.ensures.0)

pub returns : goal.returns
returns c =
    let k = c.args.kind in
    let s = sheet_at k c.args.sources.now in
    let long = whole_length k s in
    let count : 4 * c.count_words-size.result ≡ length (bytes_for k s) = omega (arith, long, c.count_words-size.ensures.0) in
    let room = le-ltb (length c.args.buffer.now) (length (bytes_for k s)) (omega (arith, long, c.count_words-size.ensures.0)) in
    record {
      says_that_source = λ n e.
          let is : 4 * c.count_words-size.result ≡ n = cc in (
            content_of k s,
            held_sound k c.args.sources.now,
            refl,
            ap (take n) c.put_sheet.ensures ∙ take_at (bytes_for k s) (drop (length (bytes_for k s)) c.args.buffer.now) n (sym count ∙ is),
            held_given k c.args.sources.now,
          );
      answers_the_size_or_too_short = ap Ok count ∙ sym (cond-false _ _ _ room);
      writes_the_front_alone_or_nothing = c.put_sheet.ensures ∙ sym (cond-false _ _ _ room);
    }
