use Rattle.std.proofs.Common.{◌≡◌, ◌+◌, ◌<◌, ◌≤◌, List, length, map, take, drop, ap, ◌∙◌, arith}
use Rattle.std.proofs.lemmas.List.{length_push}
use Rattle.sparse_program.specs.Program.{Begun}
use Rattle.sparse_program.specs.declared.column.Col.{Col}
use Rattle.sparse_program.specs.declared.row.Row.{Row}
use Rattle.program_model.specs.SwitchRows as model
use Rattle.flow_switches.specs.Sums.{held, term_of}
use Rattle.flow_switches.proofs.Adding.{front_added, lower, lower-append, lower_more, on_err, step_added}
use Rattle.flow_switches.proofs.move_rows.Move.lower_rows.Goals as goal

pub returns-in_err-lower_row-2-clause-err : goal.returns-in_err-lower_row-2-clause-err
returns-in_err-lower_row-2-clause-err c =
    on_err c.from_residual-in_err-lower_row-2.result (front_added (lower c.args.self.flow c.args.self.first c.args.self.switches c.args.cap.now) c.args.builder.now c.loop-k.builder c.lower_row-in-loop-k.new.builder c.args.further.now c.loop-k.k
    (map held (model.lower_rows c.args.self.flow (λ m. c.args.self.first + m) c.args.self.switches (length (take c.loop-k.k c.args.further.now) + 1) (map term_of (drop c.loop-k.k c.args.further.now))))
    (lower-append c.args.self.flow c.args.self.first c.args.self.switches c.args.cap.now (take c.loop-k.k c.args.further.now) (drop c.loop-k.k c.args.further.now)) c.loop-k.invariant.added c.in_err-lower_row-2.ensures.err)

pub loop-k-preserved : goal.loop-k-preserved
loop-k-preserved c =
    let inside : c.loop-k.k < length c.args.further.now = c.loop-k-test.true in
    let within : c.loop-k.k ≤ length c.args.further.now = omega (arith, inside) in
    let row : Row = held (model.lower_row c.args.self.flow (λ m. c.args.self.first + m) c.args.self.switches (c.loop-k.k + 1) (term_of c.index-further-k.result).of) in
    let columns_of : Begun → List Col = λ program. program.columns in
    let many : length c.lower_row-in-loop-k.new.builder.rows ≡ length c.loop-k.builder.rows + 1 =
    ap (λ (program : Begun). length program.rows) c.in_ok-lower_row-2.ensures.ok ∙ length_push c.loop-k.builder.rows row in
    record {
      added = step_added (lower c.args.self.flow c.args.self.first c.args.self.switches c.args.cap.now) c.args.builder.now c.loop-k.builder c.lower_row-in-loop-k.new.builder c.args.further.now c.loop-k.k c.index-further-k.result row inside c.index-further-k.is
          (lower_more c.args.self.flow c.args.self.first c.args.self.switches c.args.cap.now c.args.further.now c.loop-k.k c.index-further-k.result within) c.loop-k.invariant.added c.in_ok-lower_row-2.ensures.ok;
      columns = ap columns_of c.in_ok-lower_row-2.ensures.ok ∙ c.loop-k.invariant.columns;
      many = omega (arith, many, c.loop-k.invariant.many);
    }
