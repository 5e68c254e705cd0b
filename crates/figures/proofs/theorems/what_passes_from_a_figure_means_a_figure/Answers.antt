use Rattle.std.proofs.Common.{ap, ◌∙◌}
use Rattle.figures.proofs.Passages.{led_to_figures}
use Rattle.figures.proofs.theorems.what_passes_from_a_figure_means_a_figure.Goals as goal

pub returns : goal.returns
returns g c =
    let led = g.met.P.Passage.leads in
    record { figures_pass = λ f s e v w p h. led.led v w p ∙ ap led.map h ∙ led_to_figures _ _ led.map led.keeps f s e }
