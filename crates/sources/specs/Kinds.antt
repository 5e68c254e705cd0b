-- Each kind of match source and its number in the head of a sheet.
use Rattle.std.specs.Prelude.{ℕ, cond, Ok, Err, Result, ◌==◌}
use Rattle.facts.specs.declared.refusals.Refusal.{Refusal}
use Rattle.facts.specs.declared.refusals.Refusal.TheVariants.{SourceUnknown}
use Rattle.sources.specs.declared.kind.SourceKind.{SourceKind}
use Rattle.sources.specs.declared.kind.SourceKind.TheVariants.{Matrix, Order, Bribes}

abbrev pub kind_number : SourceKind → ℕ
kind_number Matrix = 0
kind_number Order = 1
kind_number Bribes = 2

-- the kind of a number, or the refusal of a number that no kind has
abbrev pub kind_of : ℕ → Result SourceKind Refusal
kind_of n =
    cond (n == 0) (Ok Matrix)
    (cond (n == 1) (Ok Order)
    (cond (n == 2) (Ok Bribes)
    (Err SourceUnknown)))
