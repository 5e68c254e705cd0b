use Rattle.std.proofs.Common.{◌≡◌, ℕ, true, replicate, refl, subst}
use Rattle.facts.proofs.Refusing.{answered_then}
use Rattle.facts.specs.Fields.{legal}
use Rattle.facts.specs.Refusals.{size_refusal}
use Rattle.facts.specs.Sheets.{SameSheet}
use Rattle.facts.specs.declared.sizes.FieldSize.{FieldSize}
use Rattle.sources.specs.Held.{square_sheet, uniform_sheet}
use Rattle.sources.specs.Holding.{told_alike}
use Rattle.sources.proofs.square.Square.alike.Goals as goal

-- a square of a size is a square of as many as that size was made from
pub returns : goal.returns
returns g c =
    let k = g.K.Kept in
    let x = c.args.kept in
    let n = c.in_ok-try_from.field-0 in
    let is = (answered_then (λ (s : FieldSize). s.entrants ≡ c.args.size) (size_refusal c.args.size) n c.in_ok-try_from.ensures).1 in
    let P : ℕ → Type 0 = λ m. (legal m ≡ true) × SameSheet (square_sheet k.told k.carried n.entrants (replicate 256 x)) (uniform_sheet k.carried m (k.told x)) in
    record { tells_the_same_everywhere_or_the_size_is_refused = subst P is (n.legal, told_alike k.told k.carried n.entrants x (k.told x) refl n.legal) }
