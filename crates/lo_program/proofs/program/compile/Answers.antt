use Rattle.std.proofs.Common.{rules}
use Rattle.lo_program.proofs.SizeFaults.{large_refused, passed_fits, passed_not_large}
use Rattle.lo_program.proofs.program.compile.Goals as goal

pub returns-in_err-judge_size-clause-large : goal.returns-in_err-judge_size-clause-large
returns-in_err-judge_size-clause-large c = λ many. large_refused c.args.net.now tt c.in_err-judge_size.field-0.0 c.from_residual.result (search rules) c.in_err-judge_size.ensures many

pub program_of-requires-clause-few : goal.program_of-requires-clause-few
program_of-requires-clause-few c = passed_fits c.args.net.now tt c.in_ok-judge_size.field-0 c.in_ok-judge_size.ensures

pub returns-in_err-program_of-clause-large : goal.returns-in_err-program_of-clause-large
returns-in_err-program_of-clause-large c = λ many. absurd (passed_not_large c.args.net.now tt c.in_ok-judge_size.field-0 c.in_ok-judge_size.ensures many)

pub returns-clause-large : goal.returns-clause-large
returns-clause-large c = λ many. absurd (passed_not_large c.args.net.now tt c.in_ok-judge_size.field-0 c.in_ok-judge_size.ensures many)
