use Rattle.trails.specs.Held.{none_put}
use Rattle.trails.specs.Meaning.{held}
use Rattle.trails.proofs.Newest.{newest_held}
use Rattle.trails.proofs.Trail.new.Goals as goal

pub returns-clause-newest : goal.returns-clause-newest
unfolding held none_put
returns-clause-newest g c = newest_held c.args.slots.now
