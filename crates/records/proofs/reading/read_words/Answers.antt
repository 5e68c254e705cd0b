use Rattle.std.proofs.Common.{◌≡◌, ℕ, suc, ◌-◌, ◌<◌, ◌≤◌, true, false, ◌⊎◌, length, get_or, sym, ap, ◌∙◌, inl, inr, arith, ltb-false, ltb-true}
use lib.Count.{count_trailing_zeros}
use Rattle.std.specs.Option.{option_map}
use Rattle.std.proofs.lemmas.Grind.{common_steps}
use Rattle.facts.specs.declared.refusals.Refusal.TheVariants.{LeafImpossible, RecordWordMisplaced}
use Rattle.figures.specs.Fields.{field_of}
use Rattle.figures.specs.Sets.{has}
use Rattle.records.specs.Words.{leaf_shaped, match_shaped}
use Rattle.records.proofs.Deciding.{sized}
use Rattle.records.proofs.Fields.{told_by, leaf_unfit, match_passes}
use Rattle.records.proofs.Passing.{grown}
use Rattle.records.proofs.Turning.{begins, both_to_come, leaf_refused, match_turn, strayed, finished, refused_by_word, read_through}
use Rattle.records.proofs.reading.read_words.Goals as goal
use Rattle.records.proofs.reading.read_words.Goals.{then-entrant-size-via-then-entrant-size, then-entrant-size-via-else-entrant-size+then-holds, in_default-word_of-via-in-Leaf+else-rounds-eq0, in_default-word_of-via-in-Match+else-rounds-gt0, in_default-word_of-via-in_default-word_of}

pub loop-rest-init : goal.loop-rest-init
loop-rest-init g c =
    let m = g.V.Algebra in
    let f = field_of (g.S.MatchSource.sheet c.args.source.now) in
    let z = sized f.size (g.met.S.MatchSource.lawful c.args.source.now).size_legal in
    rw c.one-parts.ensures
    (begins m.semiring f c.args.words.now (count_trailing_zeros 64 c.size-size.result) (m.means c.one.result) z
    (ap (count_trailing_zeros 64) c.size-size.ensures.is_the_size_of_the_field ∙ z.zeros) c.requires c.one.ensures.means_one)

pub returns-then-entrant-size : goal.returns-then-entrant-size
returns-then-entrant-size g c =
    let l = c.loop-rest in
    let m = g.V.Algebra in
    let f = field_of (g.S.MatchSource.sheet c.args.source.now) in
    let some : 0 < length l.rest.now = omega (arith, ltb-false) in
    let w : ℕ = get_or l.rest.now 0 0 in
    let told = told_by _ w (sym c.in-Leaf.is ∙ c.word_of.ensures) in
    let unfit : (f.size ≤ w) ⊎ (has l.seen w ≡ true) =
    elim c.then-entrant-size.branch [
      | then-entrant-size-via-then-entrant-size b ↦ inl (omega (arith, told.2))
      | then-entrant-size-via-else-entrant-size+then-holds b ↦ inr (ap (has l.seen) (sym told.2) ∙ sym b.holds.ensures.says_whether_he_is_a_member ∙ b.if-holds.true)
    ] in
    refused_by_word m.means m.semiring f c.args.words.now LeafImpossible
    (leaf_refused l.invariant some _ _ c.pop-rounds.ensures g.met.V.Algebra.lawful LeafImpossible c.if-rounds-eq0.true (leaf_unfit f.size l.seen w told.0 unfit))

pub is_fair-fair-requires-clause-both_halves_to_come : goal.is_fair-fair-requires-clause-both_halves_to_come
is_fair-fair-requires-clause-both_halves_to_come g c =
    let l = c.loop-rest in
    let some : 0 < length l.rest.now = omega (arith, ltb-false) in
    both_to_come l.invariant some _ _ c.pop-rounds.ensures c.if-rounds-gt0.true

pub returns-in_default-word_of : goal.returns-in_default-word_of
returns-in_default-word_of g c =
    let l = c.loop-rest in
    let m = g.V.Algebra in
    let f = field_of (g.S.MatchSource.sheet c.args.source.now) in
    let some : 0 < length l.rest.now = omega (arith, ltb-false) in
    let k : ℕ = c.pop-rounds.result in
    let w : ℕ = get_or l.rest.now 0 0 in
    let shapes : (k ≡ 0 → leaf_shaped w ≡ false) × (0 < k → match_shaped w ≡ false) =
    elim c.in_default-word_of.branch [
      | in_default-word_of-via-in-Leaf+else-rounds-eq0 b ↦ (λ z. absurd (b.if-rounds-eq0.false z), λ p. (told_by _ w (sym b.in-Leaf.is ∙ c.word_of.ensures)).1)
      | in_default-word_of-via-in-Match+else-rounds-gt0 b ↦ (λ z. (told_by _ w (sym b.in-Match.is ∙ c.word_of.ensures)).1, λ p. absurd (omega arith))
      | in_default-word_of-via-in_default-word_of b ↦ let t = told_by _ w (sym b.in_default-word_of.is ∙ c.word_of.ensures) in (λ z. t.0, λ p. t.1)
    ] in
    refused_by_word m.means m.semiring f c.args.words.now RecordWordMisplaced
    (strayed l.invariant some k _ c.pop-rounds.ensures g.met.V.Algebra.lawful shapes.0 shapes.1)

pub loop-rest-preserved : goal.loop-rest-preserved
loop-rest-preserved g c =
    let l = c.loop-rest in
    let m = g.V.Algebra in
    let f = field_of (g.S.MatchSource.sheet c.args.source.now) in
    let some : 0 < length l.rest.now = omega (arith, ltb-false) in
    let weight : option_map m.means c.map-weight.result ≡ grown m.semiring (option_map m.means l.weight) c.is_fair-fair.result (m.means c.match_weight-worth.result) =
    grind (arith, common_steps, c.filter.ensures, c.map-weight.ensures) in
    let k = c.pop-rounds.result in
    let is : k ≡ suc (k - 1) = omega arith in
    let w : ℕ = get_or l.rest.now 0 0 in
    let told = told_by _ w (sym c.in-Match.is ∙ c.word_of.ensures) in
    rw (weight, c.push-in-Match.ensures, c.push.ensures)
    (match_turn l.invariant some k _ c.pop-rounds.ensures (k - 1) c.in-Match.told c.is_fair-fair.result (m.means c.match_weight-worth.result) is
    (match_passes w told.0) told.2 c.is_fair-fair.ensures c.match_weight-worth.ensures)

pub returns : goal.returns
returns g c =
    let l = c.loop-rest in
    let m = g.V.Algebra in
    let f = field_of (g.S.MatchSource.sheet c.args.source.now) in
    let none : length l.rest.now ≡ 0 = omega (arith, ltb-true) in
    rw c.ok_or.ensures.value
    (read_through m.means m.semiring f c.args.words.now g.met.V.Algebra.lawful l.weight
    (finished l.invariant g.met.V.Algebra.lawful none (sized f.size (g.met.S.MatchSource.lawful c.args.source.now).size_legal) c.requires))
