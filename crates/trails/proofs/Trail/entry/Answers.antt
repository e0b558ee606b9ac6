-- The entry of an age stands where `slot` says.
use Rattle.std.proofs.Common.{sym, arith}
use Rattle.std.proofs.lemmas.List.{length-take}
use Rattle.trails.specs.Meaning.{held}
use Rattle.trails.proofs.Around.{newest_aged, aged_none}
use Rattle.trails.proofs.Trail.entry.Goals as goal

pub returns-then-age-self : goal.returns-then-age-self
unfolding held
returns-then-age-self g c = sym (aged_none _ c.args.age (simp length-take (omega arith)))

pub returns : goal.returns
unfolding held
returns g c = sym (newest_aged c.args.self.now.slots.now c.args.self.now.next c.args.self.now.used c.args.age c.slot.result c.index-self-slot.result
    c.args.self.now.next_within c.args.self.now.used_within c.if-age-self.false c.slot.ensures.cases)
