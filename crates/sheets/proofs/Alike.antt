-- Two sheets that nothing tells apart are equal. Assumes nothing.
use Rattle.std.proofs.Common.{◌≡◌, ℕ, Bool, Option, ap, ◌∙◌}
use mathlib.Core.Path.{fun_ext}
use Rattle.facts.specs.Sheets.{Sheet, SameSheet}
use Rattle.sources.specs.declared.kind.SourceKind.{SourceKind}
use Rattle.sheets.specs.Scanning.{after}

abbrev made : ℕ → (ℕ → ℕ → Option ℕ) → (ℕ → ℕ → Option ℕ → Option ℕ → Bool) → Sheet
made n beats carries = record { size = n; beats = beats; carries = carries }

pub alike : (s t : Sheet) → SameSheet s t → s ≡ t
alike s t h =
    ap (λ n. made n s.beats s.carries) h.size
    ∙ ap (λ b. made t.size b s.carries) (fun_ext (λ a. fun_ext (λ b. h.beats a b)))
    ∙ ap (λ c. made t.size t.beats c) (fun_ext (λ a. fun_ext (λ b. fun_ext (λ f. fun_ext (λ g. h.carries a b f g)))))

pub unlike : (s t : Sheet) → s ≡ t → SameSheet s t
unlike s t e = record { size = ap (λ (x : Sheet). x.size) e; beats = λ a b. ap (λ (x : Sheet). x.beats a b) e; carries = λ a b f g. ap (λ (x : Sheet). x.carries a b f g) e }

-- the same sheet of the same kind, read as far
pub same_progress : (j k : SourceKind) (s t : Sheet) (from : ℕ) → j ≡ k → SameSheet s t → after j s from ≡ after k t from
same_progress j k s t from e h = ap (λ i. after i s from) e ∙ ap (λ x. after k x from) (alike s t h)
