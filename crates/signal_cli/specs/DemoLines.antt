-- The lines that `demo` prints (README.md, "Commands").
use Rattle.std.specs.Prelude.{ℕ, List, ◌++◌, codes}
use Rattle.std.specs.Fmt.{decimal}

-- which generated network it is, and how many rows and columns its program has
unfoldable pub size_lines : (number rows columns : ℕ) → List ℕ
size_lines number rows columns = codes "demo " ++ decimal number ++ codes "\nrows " ++ decimal rows ++ codes "\ncolumns " ++ decimal columns ++ codes "\n"

-- that the certificate of the search was accepted
unfoldable pub accepted_line : List ℕ
accepted_line = codes "check accepted\n"

-- the network and its size, the lines of the search, that its certificate was accepted, and the text of the plan
abbrev pub demo_lines : (number rows columns : ℕ) (search plan : List ℕ) → List ℕ
demo_lines number rows columns search plan = size_lines number rows columns ++ search ++ accepted_line ++ plan
