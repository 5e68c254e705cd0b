use Rattle.std.proofs.Common.{◌^◌, ◌<◌, ◌≤◌, ap, arith, pow_mono}
use lib.Pow.{pow-lt}
use lib.Count.{count_trailing_zeros}
use Rattle.facts.specs.Outcomes.{decided}
use Rattle.facts.proofs.Refusing.{passed}
use Rattle.cells.proofs.Fitting.{roomy, none_left, not_refused, rounds_make}
use Rattle.cells.proofs.container.check_refresh.Goals as goal

pub returns-then-level-entrants : goal.returns-then-level-entrants
returns-then-level-entrants c =
    let n = c.args.size.entrants in
    let room = roomy n c.args.count (passed _ c.in_ok-check_room.ensures.refuses_a_memory_that_is_too_short) in
    let p : 2 ^ count_trailing_zeros 64 c.entrants.result ≤ 2 ^ c.args.level = pow_mono c.if-level-entrants.true in
    let is = ap (λ m. 2 ^ count_trailing_zeros 64 m) c.entrants.ensures.is_how_many_there_are in
    record { refuses_by_the_first_reason = ap decided (none_left n c.args.count c.args.level room (omega (arith, p, is, rounds_make n c.args.size.legal))) }

pub returns : goal.returns
returns c =
    let n = c.args.size.entrants in
    let room = roomy n c.args.count (passed _ c.in_ok-check_room.ensures.refuses_a_memory_that_is_too_short) in
    let p : 2 ^ c.args.level < 2 ^ count_trailing_zeros 64 c.entrants.result = pow-lt c.if-level-entrants.false in
    let is = ap (λ m. 2 ^ count_trailing_zeros 64 m) c.entrants.ensures.is_how_many_there_are in
    record { refuses_by_the_first_reason = ap decided (not_refused n c.args.count c.args.level room (omega (arith, p, is, rounds_make n c.args.size.legal))) }
