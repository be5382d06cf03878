-- The lines of `point` (README.md, "Commands").
use Rattle.std.specs.Prelude.{ℕ, List, ◌++◌, codes}
use Rattle.std.specs.Fmt.{decimal}

-- a file is not that of an integer point: why, and the number that says where
unfoldable pub refused_lines : (why : List ℕ) → ℕ → List ℕ
refused_lines why number = codes "rejected\nwhy " ++ why ++ codes "\nat " ++ decimal number ++ codes "\n"

-- a file is longer than its limit, and no line of it was judged
abbrev pub too_long_lines : List ℕ
too_long_lines = refused_lines (codes "long") 0

-- a file is that of the point of a plan: the plan's delay, and its text
unfoldable pub decoded_lines : ℕ → List ℕ → List ℕ
decoded_lines delay text = codes "point\ndelay " ++ decimal delay ++ codes "\n" ++ text
