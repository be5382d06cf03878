use Rattle.certificate_model.proofs.SafeLaws.{bounds_are_safe}
use Rattle.search_model.proofs.laws.plans_that_reach_a_bound_are_best.Goals as goal

pub returns : goal.returns
returns c = λ net bound tree best other valid certifies is admissible. rw is (bounds_are_safe net bound tree other valid certifies admissible)
