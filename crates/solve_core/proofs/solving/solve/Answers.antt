use Rattle.solve_core.proofs.TaskLaws.{task_of}
use Rattle.solve_core.proofs.solving.solve.Goals as goal

-- src/solving.rt
pub search_within-requires : goal.search_within-requires
search_within-requires c =
    task_of c.args.net.now c.args.budget c.in-Ok.program c.in_ok-judge.field-0 c.requires.valid c.requires.budget
    (c.programs_have_rows.ensures c.args.net.now c.requires.valid) c.in_ok-judge.ensures c.in-Ok.ensures.value
