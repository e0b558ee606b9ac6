use Rattle.std.proofs.Common.{rules}
use Rattle.sets.specs.Sets.{none}
use Rattle.junction.proofs.counts.Counts.new.Goals as goal

pub returns : goal.returns
unfolding none
returns c = search rules
