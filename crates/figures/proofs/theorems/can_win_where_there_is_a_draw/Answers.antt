use Rattle.figures.proofs.Passages.{can_win_by_draws}
use Rattle.figures.proofs.theorems.can_win_where_there_is_a_draw.Goals as goal

pub returns : goal.returns
returns c = record { can_win_by_draws = can_win_by_draws }
