use Rattle.std.proofs.Common.{arith, length-append}
use Rattle.listed.specs.Below.{join_below}
use Rattle.sparse_program.specs.declared.limits.TheConstants.{MAX_COLUMNS}
use Rattle.program_model.specs.Columns.{columns, columns_of_cells, plan_columns}
use Rattle.program_columns.proofs.BuildingLaws.{both_added, others_fit}
use Rattle.program_columns.proofs.columns.add_columns.Goals as goal

pub add_bits-requires-clause-room : goal.add_bits-requires-clause-room
unfolding columns
add_bits-requires-clause-room c =
    omega (arith, c.requires.room, length-append (plan_columns c.args.net.now) (join_below c.args.net.now.steps (columns_of_cells c.args.net.now.cells)))

pub add_columns_of_steps-requires-clause-room : goal.add_columns_of_steps-requires-clause-room
unfolding columns
add_columns_of_steps-requires-clause-room c =
    others_fit c.args.net.now c.args.builder.now c.add_bits.new.builder MAX_COLUMNS (plan_columns c.args.net.now) (join_below c.args.net.now.steps (columns_of_cells c.args.net.now.cells))
    c.in_ok-add_bits.ensures c.requires.room

pub returns : goal.returns
unfolding columns
returns c =
    both_added c.args.net.now c.args.builder.now c.add_bits.new.builder c.add_columns_of_steps.new.builder (plan_columns c.args.net.now) (join_below c.args.net.now.steps (columns_of_cells c.args.net.now.cells))
    c.in_ok-add_bits.ensures c.in_ok-add_columns_of_steps.ensures
