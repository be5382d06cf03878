use Rattle.std.proofs.Common.{◌≡◌, ℕ, List, [], ◌∷◌, ◌++◌, get_or, ap, ◌∙◌, sym}
use Rattle.std.specs.Prelude.{◌==◌}
use Rattle.ct_base.specs.Access.{no_phase, phase_of, signal_of}
use Rattle.ct_base.specs.declared.plan.Letter.TheVariants.{Green}
use Rattle.ct_base.specs.declared.signal.Phase.{Phase}
use Rattle.ct_base.specs.declared.signal.Signal.{Signal}
use Rattle.sparse_program.specs.Program.{Begun}
use Rattle.sparse_program.specs.declared.column.Col.{Col}
use Rattle.program_model.specs.Columns.{Bit}
use Rattle.program_columns.proofs.BuildingLaws.{col-green}
use Rattle.program_columns.proofs.FrontLaws.{front_exit, front_green}
use Rattle.program_columns.specs.Columns.{with_columns}
use Rattle.program_columns.specs.inner.Bounds.{green_col}
use Rattle.program_columns.proofs.columns.bits.add_bits_by.Goals as goal

pub returns-in_err-add_clear : goal.returns-in_err-add_clear
returns-in_err-add_clear c =
    let begin : Begun = c.args.builder.now in
    let phases = c.as_slice.ensures ∙ ap (λ (signal : Signal). signal.phases) c.signal-signal.ensures.value in
    let clear = ap (λ (list : List Phase). (get_or list c.args.p no_phase).clear) phases in
    let start = c.from.ensures ∙ ap (λ (signal : Signal). signal.start) c.signal-signal.ensures.value in
    let green = ap (λ (q : ℕ). green_col c.args.t (c.args.p == q)) start ∙ sym (col-green c.args.net.now c.args.t c.args.s c.args.p) in
    let added : c.add_clear.new.builder ≡ with_columns c.args.net.now begin (Bit c.args.t c.args.s (Green c.args.p) ∷ []) =
    c.in_err-add_clear.ensures.err ∙ c.in_ok-add_green.ensures.ok ∙ ap (λ (column : Col). record begin { columns = begin.columns ++ column ∷ [] }) green in
    front_exit _ c.from_residual-in_err-add_clear.result c.from_residual-in_err-add_clear.ensures.1
    (front_green c.args.net.now begin c.add_clear.new.builder c.args.t c.args.s c.args.p (phase_of (signal_of c.args.net.now.signals c.args.s) c.args.p).clear (λ none. c.if-as_slice-p-ne0.true (clear ∙ none)) added)
