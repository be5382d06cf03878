use Rattle.lo_program.proofs.ProgramParts.{plan_fits, program_made}
use Rattle.lo_program.proofs.program.program_of.Goals as goal

pub finish-requires : goal.finish-requires
finish-requires c = plan_fits c.args.net.now c.add_all.new.builder c.in_ok-layout.layout.plan c.in_ok-add_all.ensures c.in_ok-layout.ensures.plan

pub returns : goal.returns
returns c = program_made c.args.net.now c.add_all.new.builder c.in_ok-layout.layout.plan c.finish.result c.in_ok-add_all.ensures c.in_ok-layout.ensures.plan c.finish.ensures
