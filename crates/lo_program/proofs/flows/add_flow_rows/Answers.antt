use Rattle.lo_program.proofs.FlowRowLaws.{flows_added, flows_fit}
use Rattle.lo_program.proofs.flows.add_flow_rows.Goals as goal

pub add_rows_of_steps-requires-clause-fits : goal.add_rows_of_steps-requires-clause-fits
add_rows_of_steps-requires-clause-fits c = flows_fit c.args.net.now c.args.builder.now c.requires.valid c.requires.all_columns c.requires.few

pub returns : goal.returns
returns c = flows_added c.args.net.now c.args.builder.now c.add_rows_of_steps.new.builder c.in_ok-add_rows_of_steps.ensures
