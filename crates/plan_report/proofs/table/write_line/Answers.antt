-- The fields are those of the line's row, and plain.
use Rattle.std.proofs.Common.{◌≡◌, ◌≢◌, ◌∙◌, ap, arith}
use Rattle.std.specs.Fmt.{decimal}
use Rattle.csv.specs.declared.writer.QuoteStyle.TheVariants as style
use Rattle.named_net.specs.Naming.{NameTable, place_at}
use Rattle.plan_report.specs.Table.{link_text, place_text}
use Rattle.plan_report.proofs.Rows.{link_plain, row_is_record}
use Rattle.plan_report.proofs.table.write_line.Goals as goal
use Rattle.plan_report.proofs.table.write_line.Goals.{in-Ok, in-Err}

pub returns-clause-text : goal.returns-clause-text
returns-clause-text g c =
    let line = c.args.line.now in
    let table = c.args.net.now.names in
    let by_need : c.args.writer.now.cfg.style ≢ style.NonNumeric = rw c.requires.between.setup (λ e. cc e) in
    let step : c.as_bytes.result.now ≡ decimal line.step = c.as_bytes.ensures.value ∙ c.format.ensures.text in
    let link : c.as_bytes-2.result.now ≡ link_text table line.cell = c.as_bytes-2.ensures.value ∙ c.link_of.ensures ∙ ap (λ (names : NameTable). link_text names line.cell) c.names-names.ensures.value in
    let road = c.place_of.ensures ∙ ap (λ (names : NameTable). (place_at names line.cell).road) c.names-names.ensures.value in
    let place : c.as_bytes-3.result.now ≡ place_text (place_at table line.cell).road = c.as_bytes-3.ensures.value ∙ c.place_text.ensures.text ∙ ap place_text road in
    let units : c.as_bytes-4.result.now ≡ decimal line.units = c.as_bytes-4.ensures.value ∙ c.format-2.ensures.text in
    let out : c.as_bytes-5.result.now ≡ decimal line.out = c.as_bytes-5.ensures.value ∙ c.format-3.ensures.text in
    let delay : c.as_bytes-6.result.now ≡ decimal line.delay = c.as_bytes-6.ensures.value ∙ c.format-4.ensures.text in
    let plain_place = rw (c.place_text.ensures.text ∙ ap place_text road) at c.place_text.ensures.plain in
    let row = row_is_record table line (record { step = omega arith; units = omega arith; out = omega arith; delay = omega arith })
    (link_plain c.args.net.now line.cell c.names-names.ensures.fits c.requires.cell) plain_place in
    elim c.match-written.branch [
      | in-Ok w ↦ rw w.result-is (rw (c.requires.between.setup, step, link, place, units, out, delay, row) at (w.in-Ok.ensures.bytes c.requires.between.no_field c.requires.between.nothing_shown by_need))
      | in-Err w ↦ rw w.result-is tt
    ]
