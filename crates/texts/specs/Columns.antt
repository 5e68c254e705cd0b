-- Text in columns.
use Rattle.std.specs.Prelude.{ℕ, ◌-◌, List, ◌++◌, length, replicate}

-- a text at the right end of a column: spaces in front, and a text that is too long left as it is
abbrev pub aligned : ℕ → List ℕ → List ℕ
aligned width text = replicate (width - length text) 32 ++ text
