use Rattle.std.proofs.Common.{◌≡◌, length, ◌∙◌, ap, arith}
use Rattle.std.specs.Prelude.{if◌then◌else◌, Bool}
use Rattle.ct_base.specs.Access.{cell_of}
use Rattle.ct_base.specs.declared.cell.Cell.{Cell}
use Rattle.program_model.specs.Columns.{columns_of_split, term_count}
use Rattle.program_model.specs.Numbers.{after_room}
use Rattle.program_model.proofs.NumberLaws.{length-cell}
use Rattle.program_layout.proofs.layout.making.columns_of_cell.Goals as goal

pub returns-clause-value : goal.returns-clause-value
returns-clause-value c =
    let first : c.after_room.result ≡ after_room c.args.net.now.cells c.args.i =
    c.after_room.ensures.value ∙ ap (λ (room : Bool). if room then 3 else 1) c.requires.room in
    let split : c.columns_of_split.result ≡ length (columns_of_split 0 0 (cell_of c.args.net.now.cells c.args.i).out) =
    c.columns_of_split.ensures.value ∙ ap (λ (cell : Cell). length (columns_of_split 0 0 cell.out)) c.cell.ensures.value in
    let terms : c.term_count.result ≡ term_count (cell_of c.args.net.now.cells c.args.i).out =
    c.term_count.ensures.value ∙ ap (λ (cell : Cell). term_count cell.out) c.cell.ensures.value in
    omega (arith, first, split, terms, length-cell c.args.net.now.cells 0 c.args.i)
