use Rattle.std.proofs.Common.{ℕ, map, get_or, sym, ap, ◌∙◌, arith}
use Rattle.std.proofs.lemmas.List.{get_or-map}
use Rattle.cells.specs.Renewal.{cell_of}
use Rattle.cells.proofs.Fitting.{index_is}
use Rattle.cells.proofs.refresh.Below.cell.Goals as goal

pub returns : goal.returns
unfolding cell_of
returns g c =
    let m = g.V.Algebra in
    let below = c.args.self.now in
    let i = c.index_of.result in
    let told = c.index_of.ensures in
    let is = index_is _ below.size.entrants c.args.set c.args.entrant i c.entrants.ensures.is_how_many_there_are below.size.legal c.requires.is_a_set c.requires.is_an_entrant
    told.is_the_index_of_that_cell told.is_within_the_needed_cells in
    record {
      means_that_cell = sym (get_or-map m.means below.cells.now i c.index-self-index_of.result m.semiring.nothing (omega (arith, is.1)))
          ∙ ap (λ (x : ℕ). get_or (map m.means below.cells.now) x m.semiring.nothing) is.0;
    }
