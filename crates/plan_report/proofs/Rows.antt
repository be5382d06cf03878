-- The records of the table: the names of its columns, and the row of a line.
use Rattle.std.proofs.Common.{◌≡◌, ◌∙◌, ℕ, ◌^◌, ◌<◌, true, [], ◌∷◌, length, refl, append_assoc, arith}
use Rattle.std.specs.Prelude.{codes}
use Rattle.std.specs.Fmt.{decimal}
use Rattle.std.proofs.lemmas.List.Elements.{All-get_or}
use Rattle.texts.specs.Names.{is_name}
use Rattle.csv.specs.Writing.{default_writer, row_text}
use Rattle.named_net.specs.Naming.{IsNamed, NameTable, Named, place_at}
use Rattle.cell_replay.specs.declared.lines.Line.{Line}
use Rattle.plan_report.specs.Table.{line_text, link_text, place_text}
use Rattle.plan_report.specs.inner.Writing.{is_plain}
use Rattle.plan_report.proofs.PlainFields.{decimal_plain, name_plain, record_plain}

-- the names of the columns as a record
pub header_is_record : row_text default_writer (codes "step" ∷ codes "link" ∷ codes "cell" ∷ codes "units" ∷ codes "out" ∷ codes "delay" ∷ []) ≡ codes "step,link,cell,units,out,delay\n"
header_is_record = record_plain (codes "step") (codes "link") (codes "cell" ∷ codes "units" ∷ codes "out" ∷ codes "delay" ∷ []) refl

-- the link of a cell is there
link_is_there : (named : Named) (cell : ℕ) → IsNamed named → cell < length named.net.cells → (place_at named.names cell).link < length named.names.links
link_is_there named cell fits within = (fits.each_cell cell (omega (arith, fits.one_per_cell))).link

-- its name is plain
pub link_plain : (named : Named) (cell : ℕ) → IsNamed named → cell < length named.net.cells → is_plain (link_text named.names cell) ≡ true
link_plain named cell fits within =
    name_plain (link_text named.names cell)
    (All-get_or (λ name. is_name name ≡ true) named.names.links (place_at named.names cell).link [] (link_is_there named cell fits within) fits.links)

-- each number of a line has at most 64 bits
pub record IsSmall (line : Line) : Type 0 where
  pub step : line.step < 2 ^ 64
  pub units : line.units < 2 ^ 64
  pub out : line.out < 2 ^ 64
  pub delay : line.delay < 2 ^ 64

-- the row of a line as a record
pub row_is_record : (names : NameTable) (line : Line) → IsSmall line → is_plain (link_text names line.cell) ≡ true → is_plain (place_text (place_at names line.cell).road) ≡ true
    → row_text default_writer (decimal line.step ∷ link_text names line.cell ∷ place_text (place_at names line.cell).road ∷ decimal line.units ∷ decimal line.out ∷ decimal line.delay ∷ []) ≡ line_text names line
unfolding line_text
row_is_record names line small link place =
    let step = decimal_plain line.step small.step in
    let units = decimal_plain line.units small.units in
    let out = decimal_plain line.out small.out in
    let delay = decimal_plain line.delay small.delay in
    record_plain (decimal line.step) (link_text names line.cell) (place_text (place_at names line.cell).road ∷ decimal line.units ∷ decimal line.out ∷ decimal line.delay ∷ [])
    (simp (step, link, place, units, out, delay))
    ∙ simp append_assoc
