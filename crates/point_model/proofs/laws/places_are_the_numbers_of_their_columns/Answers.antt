use Rattle.program_model.specs.Columns.{columns}
use Rattle.program_model.specs.Existence.{IsColumn}
use Rattle.program_model.proofs.ColumnLaws.{Each-at, columns_are}
use Rattle.point_model.proofs.PlacesOnce.{place_once}
use Rattle.point_model.proofs.laws.places_are_the_numbers_of_their_columns.Goals as goal

pub returns-clause-is : goal.returns-clause-is
returns-clause-is c = λ net j other inside. Each-at (IsColumn net) (columns net) j other (columns_are net) inside

pub returns-clause-number : goal.returns-clause-number
returns-clause-number c = place_once
