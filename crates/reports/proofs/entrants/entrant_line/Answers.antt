use Rattle.std.proofs.Common.{ℕ, List, ◌++◌, codes, string_bytes, ap, ◌∙◌}
use Rattle.std.specs.Fmt.{styled_text, styled_decimal}
use Rattle.algebra.specs.Bribing.{held}
use Rattle.algebra.specs.Drawing.{counted}
use Rattle.texts.specs.Numbers.{decimal}
use Rattle.texts.proofs.Lines.{made_same}
use Rattle.texts.proofs.Padded.{text_in, numeral_aligned}
use Rattle.reports.specs.Answers.{draws_cell}
use Rattle.reports.proofs.Columns.{chance_aligned, draws_aligned, price_aligned}
use Rattle.reports.proofs.entrants.entrant_line.Goals as goal

abbrev titled : List ℕ → List ℕ → List ℕ → List ℕ → List ℕ
titled entrant chance draws bribe = codes "entrant " ++ (entrant ++ (codes "  can win: " ++ (chance ++ (codes "  draws: " ++ (draws ++ (codes "  least bribe: " ++ bribe))))))

-- each answer stands at the right end of its column
pub returns : goal.returns
returns c =
    let entrant = ap (λ spec. styled_decimal spec c.args.entrant) c.laid_out.ensures ∙ numeral_aligned 2 (decimal c.args.entrant) in
    let chance = ap (λ spec. styled_text spec (string_bytes c.in_ok-chance.chance)) c.laid_out-2.ensures ∙ ap (text_in 3) c.in_ok-chance.ensures.ok ∙ chance_aligned 3 c.args.can_win.possible in
    let draws = ap (λ spec. draws_cell (styled_text spec) (styled_decimal spec) (counted c.args.draws.count).number) c.laid_out-3.ensures ∙ draws_aligned 10 (counted c.args.draws.count).number in
    let cost = held c.args.bribe.number in
    let bribe = ap (λ spec. styled_text spec (string_bytes c.in_ok-price.price)) c.laid_out-4.ensures ∙ ap (text_in 9) c.in_ok-price.ensures.ok ∙ price_aligned 9 cost.price cost.within in
    record { tells_the_entrant_and_then_the_answers = made_same string_bytes c.format.result (λ i. titled (entrant i) (chance i) (draws i) (bribe i)) c.format.ensures.ok }
