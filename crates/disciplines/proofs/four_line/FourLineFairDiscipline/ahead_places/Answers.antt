use borrow.Author.Rules.{rules}
use Rattle.runs.proofs.Four.Order.{four_order}
use Rattle.disciplines.proofs.four_line.FourLineFairDiscipline.ahead_places.Goals as goal

pub returns : goal.returns
returns c = record { places = search rules; order = four_order }
