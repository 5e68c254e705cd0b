-- A map of meanings that keeps the operations leads figures to figures. Assumes nothing.
use Rattle.std.proofs.Common.{◌≡◌, eqb, List, [], ◌∷◌, filter, sym, ap, ◌∙◌, ap₂}
use Rattle.algebra.specs.Semirings.{Semiring, Keeps}
use Rattle.algebra.specs.Possibilities.{possibilities}
use Rattle.algebra.specs.Drawing.{drawing}
use Rattle.algebra.specs.Bribing.{bribing}
use Rattle.algebra.specs.Leading.{any_draw, unpaid}
use Rattle.algebra.specs.Leads.{any_draw_keeps, unpaid_keeps}
use Rattle.figures.specs.Sums.{over}
use Rattle.figures.specs.Fields.{Field}
use Rattle.figures.specs.Brackets.{Filled, sole, match, pick, champion, listed}
use Rattle.figures.specs.Figures.{worth, figure}
use Rattle.figures.specs.Theorems.{LedToFigures, CanWinByDraws, CanWinUnpaid}
use Rattle.figures.proofs.Sums.{over_same}

module _ {M N : Type 0} (A : Semiring M) (B : Semiring N) (h : M → N) (K : Keeps A B h) where
  led_over : {X : Type 0} (xs : List X) (g : X → M) → h (over A xs g) ≡ over B xs (λ x. h (g x))
  unfolding over
  led_over [] g = K.nothing
  led_over (x ∷ xs) g = K.plus (g x) (over A xs g) ∙ ap (B.plus (h (g x))) (led_over xs g)

  pub led_worth : (f : Field) (t : Filled) → h (worth A f t) ≡ worth B f t
  unfolding worth
  led_worth f (sole e) = K.one
  led_worth f (match side l r) =
      let p = f.beats (pick side (champion l) (champion r)) (pick side (champion r) (champion l)) in
      K.times (A.times (worth A f l) (worth A f r)) (A.weight p)
      ∙ ap₂ B.times (K.times (worth A f l) (worth A f r) ∙ ap₂ B.times (led_worth f l) (led_worth f r)) (K.weight p)

pub led_to_figures : {M N : Type 0} (A : Semiring M) (B : Semiring N) → LedToFigures A B
unfolding figure
led_to_figures A B h K f s w =
    let ts : List Filled = filter (λ t. eqb (champion t) w) (listed f s) in
    led_over A B h K ts (worth A f) ∙ over_same B ts (λ t. h (worth A f t)) (worth B f) (led_worth A B h K f)

pub can_win_by_draws : CanWinByDraws
can_win_by_draws f s w = sym (led_to_figures drawing possibilities any_draw any_draw_keeps f s w)

pub can_win_unpaid : CanWinUnpaid
can_win_unpaid f s w = sym (led_to_figures bribing possibilities unpaid unpaid_keeps f s w)
