-- What a junction tells without changing.
use Rattle.std.specs.Prelude.{◌≡◌, ℕ, ◌<◌, true, false, cond, Some, None, Option, nat_lt}
use Rattle.steps.specs.Table.{Table}
use Rattle.runs.specs.Runs.{holds}
use Rattle.junction.specs.declared.state.Junction.{Junction}
use Rattle.junction.specs.Calls.{place}

-- A station that holds the merge; none where no station does.
abbrev pub HolderIs : {D B : Type 0} → Table → Junction D B → Option ℕ → Type 0
HolderIs t j None = (p : ℕ) → p < j.size.stations → holds t (place j p) ≡ false
HolderIs t j (Some p) = (p < j.size.stations) × (holds t (place j p) ≡ true)

-- Where a station stands; none where there is no such station.
abbrev pub place_at : {D B : Type 0} → Junction D B → ℕ → Option ℕ
place_at j p = cond (nat_lt p j.size.stations) (Some (place j p)) None
