-- The table of a replay as comma-separated values (docs/traffic.md, "The trace").
use Rattle.std.specs.Prelude.{ℕ, List, [], ◌++◌, Option, Some, None, slice_index_or, codes, flat_map}
use Rattle.std.specs.Fmt.{decimal}
use Rattle.named_net.specs.Naming.{NameTable, place_at}
use Rattle.cell_replay.specs.declared.lines.Line.{Line}

-- the name of the link of a cell
abbrev pub link_text : NameTable → ℕ → List ℕ
link_text names cell = slice_index_or names.links (place_at names cell).link []

-- the place of a cell among the road cells of its link, from 0, or `q` for the link's queue
abbrev pub place_text : Option ℕ → List ℕ
place_text (Some road) = decimal road
place_text None = codes "q"

-- the row of one cell in one step
unfoldable pub line_text : NameTable → Line → List ℕ
line_text names line =
    decimal line.step ++ codes "," ++ link_text names line.cell ++ codes "," ++ place_text (place_at names line.cell).road ++ codes ","
    ++ decimal line.units ++ codes "," ++ decimal line.out ++ codes "," ++ decimal line.delay ++ codes "\n"

-- the names of the columns, and then a row for each line
unfoldable pub trace_text : NameTable → List Line → List ℕ
trace_text names lines = codes "step,link,cell,units,out,delay\n" ++ flat_map (line_text names) lines
