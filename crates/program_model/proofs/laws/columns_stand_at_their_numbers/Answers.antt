use Rattle.program_model.specs.Columns.{Units}
use Rattle.program_model.proofs.NumberLaws.{length-plan_columns}
use Rattle.program_model.proofs.PlaceLaws.{column_stands}
use Rattle.program_model.proofs.laws.columns_stand_at_their_numbers.Goals as goal

pub returns-clause-there : goal.returns-clause-there
returns-clause-there c = λ net column is. (column_stands net column (Units 0 0) is).0

pub returns-clause-at : goal.returns-clause-at
returns-clause-at c = λ net column other is. (column_stands net column other is).1

pub returns-clause-plan : goal.returns-clause-plan
returns-clause-plan c = λ net. length-plan_columns net
