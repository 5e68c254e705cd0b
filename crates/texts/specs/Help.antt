-- What the program says of itself.
use Rattle.std.specs.Prelude.{ℕ, List, [], ◌∷◌, ◌++◌, codes}

-- lines one under another: a line break, the byte 10, between each two
abbrev pub stacked : List (List ℕ) → List ℕ
stacked [] = []
stacked (line ∷ []) = line
stacked (line ∷ next ∷ rest) = line ++ (10 ∷ stacked (next ∷ rest))

-- the commands, and what a sheet file is
abbrev pub help_text : List ℕ
help_text =
    stacked (codes "Wenatik analyses knockout draws."
    ∷ codes ""
    ∷ codes "with no argument   do the whole job on the built-in sheet"
    ∷ codes "show FILE          show the sheet in FILE, or why it is refused and what to mend"
    ∷ codes "help               show this text"
    ∷ codes ""
    ∷ codes "FILE is a sheet file: words of four bytes each, the head first."
    ∷ [])
