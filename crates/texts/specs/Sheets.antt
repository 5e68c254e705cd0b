-- What the program says of a sheet as a whole.
use Rattle.std.specs.Prelude.{ℕ, List, ◌++◌, codes}
use Rattle.sources.specs.declared.kind.SourceKind.{SourceKind}
use Rattle.sources.specs.declared.kind.SourceKind.TheVariants.{Matrix, Order, Bribes}
use Rattle.sources.specs.Kinds.{kind_number}
use Rattle.texts.specs.Numbers.{decimal}

-- the name of each kind of source
abbrev pub kind_text : SourceKind → List ℕ
kind_text Matrix = codes "result matrix"
kind_text Order = codes "strength order"
kind_text Bribes = codes "bribe file"

-- how many entrants there are
abbrev pub size_line : ℕ → List ℕ
size_line size = codes "entrants: " ++ decimal size

-- the kind of source and its number in the head; it begins in the column where the size does
abbrev pub kind_line : SourceKind → List ℕ
kind_line kind = codes "source:   " ++ (kind_text kind ++ (codes " (" ++ (decimal (kind_number kind) ++ codes ")")))
