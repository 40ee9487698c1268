-- Parts of printed lines: numbers with spaces before them, and the end of a line.
use Rattle.std.specs.Prelude.{ℕ, List, [], ◌∷◌, ◌++◌, codes, decimal}

-- the numbers in decimal, each with a space before it
abbrev pub spaced_numbers : List ℕ → List ℕ
spaced_numbers [] = []
spaced_numbers (n ∷ ns) = codes " " ++ decimal n ++ spaced_numbers ns

-- the end of a line
abbrev pub line_end : List ℕ
line_end = codes "\n"
