use Rattle.certificate_model.proofs.PointLaws.{rows_there}
use Rattle.program_model.specs.Points.{program_of}
use Rattle.search_model.proofs.BreakLaws.{one_price_value}
use Rattle.search_model.proofs.laws.a_broken_row_shows_an_empty_box.Goals as goal

pub returns : goal.returns
returns c = λ net box row price x valid within fixed. one_price_value (program_of net) box row price x (rows_there net valid) within fixed
