use Rattle.figures.proofs.Passages.{led_to_figures}
use Rattle.figures.proofs.theorems.passages_lead_figures_to_figures.Goals as goal

pub returns : goal.returns
returns g c = record { led_to_figures = led_to_figures g.V.Algebra.semiring g.W.Algebra.semiring }
