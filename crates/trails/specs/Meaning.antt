-- What a trail means.
use Rattle.std.specs.Prelude.{◌≡◌, ℕ, List, refl}
use Rattle.trails.specs.declared.Trail.{Trail}
use Rattle.trails.specs.Held.{Held, newest}

abbrev pub held_of : {X : Type 0} → List X → ℕ → ℕ → ℕ → Held X
held_of slots next used count = record { entries = newest slots next used; puts = count; memory = slots; place = next }

unfoldable pub held : {X : Type 0} → Trail X → Held X
held t = held_of t.slots.now t.next t.used t.count

-- What the lent slots hold, for a caller to whom `held` is shut.
pub held_memory : {X : Type 0} (t : Trail X) → t.slots.now ≡ (held t).memory
unfolding held
held_memory t = refl
