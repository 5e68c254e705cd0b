-- A table that is right for single entrants and goes by halves holds the figures. Assumes nothing.
use Rattle.std.proofs.Common.{◌≡◌, ℕ, zero, suc, ◌^◌, ◌<◌, sym, ap, ◌∙◌, arith, pow_pos}
use Rattle.algebra.specs.Semirings.{Semiring, LawfulSemiring}
use Rattle.figures.specs.Figures.{figure}
use Rattle.figures.specs.Theorems.{TableHolds}
use Rattle.figures.proofs.Bits.{some_member, bit_true, ones_one, member_lt}
use Rattle.figures.proofs.Listed.{positive}
use Rattle.figures.proofs.Halves.{by_halves_same, by_halves_lem}
use Rattle.figures.proofs.Alone.{of_one}

pub table_holds : {M : Type 0} (A : Semiring M) → LawfulSemiring A → TableHolds A
table_holds A L f cells T zero s w h o l =
    let r = some_member f.size s h (positive s 0 o) in
    let e = r.0 in
    let q : s ≡ 2 ^ e = ones_one e s (bit_true s e r.2) o in
    ap (λ (x : ℕ). cells x w) q ∙ T.at_one e w r.1 l ∙ sym (of_one A L f e w r.1) ∙ ap (λ (x : ℕ). figure A f x w) (sym q)
table_holds A L f cells T (suc k) s w h o l =
    T.at_more k s w h o l
    ∙ by_halves_same A f s w cells (figure A f) (λ a e u v m.
    let b : a < 2 ^ f.size = omega arith in
    table_holds A L f cells T k a e b (omega arith) (member_lt f.size a e b (bit_true a e m)))
    ∙ sym (by_halves_lem A L f s w h (λ one. omega (arith, pow_pos k)))
