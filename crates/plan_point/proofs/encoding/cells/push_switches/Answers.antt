use Rattle.std.proofs.Common.{rules, ◌+◌}
use Rattle.std.specs.Prelude.{◌==◌, pos, ℤ, ℕ}
use Rattle.listed.specs.Below.{table_of}
use Rattle.listed.proofs.TableLaws.{table_of-suc, table_of-zero}
use Rattle.program_model.specs.Values.{one_where}
use Rattle.plan_point.proofs.EncodingLaws.{none_added, part_added}
use Rattle.plan_point.proofs.encoding.cells.push_switches.Goals as goal
use Rattle.std.proofs.Common.{[], ◌∷◌}

pub loop-number-init : goal.loop-number-init
loop-number-init c =
    let switch : ℕ → ℤ = λ m. pos (one_where (m == c.args.place)) in
    none_added c.args.values.now.items (table_of 0 switch) (table_of-zero switch)

pub loop-number-preserved : goal.loop-number-preserved
loop-number-preserved c =
    let switch : ℕ → ℤ = λ m. pos (one_where (m == c.args.place)) in
    part_added c.args.values.now.items (table_of c.loop-number.number switch) (switch c.loop-number.number ∷ []) c.loop-number.values.items c.push.new.self.items
    (table_of (c.loop-number.number + 1) switch) c.loop-number.invariant (search rules) (table_of-suc c.loop-number.number switch)
