use Rattle.figures.proofs.Passages.{can_win_unpaid}
use Rattle.figures.proofs.theorems.can_win_where_it_costs_nothing.Goals as goal

pub returns : goal.returns
returns c = record { can_win_unpaid = can_win_unpaid }
