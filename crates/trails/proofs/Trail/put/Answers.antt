-- A put writes the slot `next`, and the list of entries gains its head.
use Rattle.std.proofs.Common.{arith}
use Rattle.trails.specs.Meaning.{held}
use Rattle.trails.proofs.Around.{held_put}
use Rattle.trails.proofs.Trail.put.Goals as goal

pub returns-clause-held : goal.returns-clause-held
unfolding held
returns-clause-held g c = held_put _ _ _ _ _ c.min-self.result c.args.x c.if-self-n.false (omega arith) c.min-self.ensures
