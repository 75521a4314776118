-- The line that is printed.
use Rattle.std.specs.Prelude.{ℕ, List, ◌++◌, codes, decimal}

-- as LINE 0 NODES 3
abbrev pub line_text : ℕ → List ℕ
line_text k = codes "LINE 0 NODES " ++ decimal k
