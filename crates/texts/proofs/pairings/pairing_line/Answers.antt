use Rattle.std.proofs.Common.{◌≡◌, ℕ, List, ◌++◌, ◌==◌, codes, Option, Some, None, string_bytes, ap, ◌∙◌, refl}
use Rattle.std.specs.Fmt.{styled_text, styled_decimal, char_count, take_chars}
use Rattle.texts.specs.Columns.{aligned}
use Rattle.texts.specs.Numbers.{decimal}
use Rattle.texts.specs.Pairings.{fact_text, fact_cell}
use Rattle.texts.proofs.Lines.{made_same}
use Rattle.texts.proofs.Padded.{numeral_in, text_in, numeral_aligned, text_aligned, word_or_numeral_aligned}
use Rattle.texts.proofs.pairings.pairing_line.Goals as goal

fact_aligned : (width : ℕ) (fact : Option ℕ) → fact_cell (text_in width) (λ price. numeral_in width (decimal price)) fact ≡ aligned width (fact_text fact)
unfolding char_count take_chars
fact_aligned width None = text_aligned width (codes "never") refl refl
fact_aligned width (Some price) = word_or_numeral_aligned width (codes "free") (decimal price) refl refl (price == 0)

abbrev spaced : List ℕ → List ℕ → List ℕ → List ℕ → List ℕ
spaced first second first_wins second_wins = first ++ (codes "  " ++ (second ++ (codes "  " ++ (first_wins ++ (codes "  " ++ second_wins)))))

-- each cell stands at the right end of its column
pub returns : goal.returns
returns c =
    let first = ap (λ spec. styled_decimal spec c.args.a) c.laid_out.ensures ∙ numeral_aligned 5 (decimal c.args.a) in
    let second = ap (λ spec. styled_decimal spec c.args.b) c.laid_out-2.ensures ∙ numeral_aligned 6 (decimal c.args.b) in
    let first_wins = ap (λ spec. fact_cell (styled_text spec) (styled_decimal spec) c.args.facts.0) c.laid_out-3.ensures ∙ fact_aligned 10 c.args.facts.0 in
    let second_wins = ap (λ spec. fact_cell (styled_text spec) (styled_decimal spec) c.args.facts.1) c.laid_out-4.ensures ∙ fact_aligned 11 c.args.facts.1 in
    record { tells_the_entrants_and_then_their_facts = made_same string_bytes c.format.result (λ i. spaced (first i) (second i) (first_wins i) (second_wins i)) c.format.ensures.ok }
