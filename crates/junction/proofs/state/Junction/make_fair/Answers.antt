use Rattle.junction.proofs.Whole.{ordered}
use Rattle.junction.proofs.state.Junction.make_fair.Goals as goal

pub returns-clause-order : goal.returns-clause-order
returns-clause-order g c = ordered _ _ _ c.make.ensures.safe g.met.D.FairDiscipline.fair
