-- The rows of the inner contest, which both disciplines share.
use Rattle.std.specs.Prelude.{ℕ, Bool, true, false, cond, Some, None, Option, ◌==◌}
use Rattle.steps.specs.declared.record.Record.{Record}
use Rattle.steps.specs.declared.lines.Part.TheVariants.{Claim}
use Rattle.steps.specs.declared.lines.Flag.{Flag}
use Rattle.steps.specs.declared.go.Go.{Go}
use Rattle.steps.specs.declared.go.Go.TheVariants.{Waits, Moves, Settles}
use Rattle.steps.specs.declared.contest.Contest.{Contest}
use Rattle.steps.specs.declared.contest.Contest.TheVariants.{RaiseClaim, LookBelow, LowerClaim, AwaitLower, PickAbove, AwaitAbove, Release}
use Rattle.sets.specs.Sets.{without, none, first, above}
use Rattle.steps.specs.Rows.{idle_place, to_number, keeping, leaving, flag, picked, picked_look}

abbrev pub label : Contest → ℕ
label RaiseClaim = 28
label LookBelow = 29
label LowerClaim = 30
label AwaitLower = 31
label PickAbove = 32
label AwaitAbove = 33
label Release = 38

-- The place of a number, if it is one of the contest.
abbrev pub place_of : ℕ → Option Contest
place_of n =
    cond (n == 28) (Some RaiseClaim)
    (cond (n == 29) (Some LookBelow)
    (cond (n == 30) (Some LowerClaim)
    (cond (n == 31) (Some AwaitLower)
    (cond (n == 32) (Some PickAbove)
    (cond (n == 33) (Some AwaitAbove)
    (cond (n == 38) (Some Release) None))))))

abbrev pub to : Contest → Record → Record
to x s = to_number (label x) s

-- The line that a go reads.
abbrev pub looks : Contest → Record → ℕ → Option Flag
looks RaiseClaim s k = None
looks LookBelow s k = picked_look s.left k (flag k Claim)
looks LowerClaim s k = None
looks AwaitLower s k = Some (flag s.kept Claim)
looks PickAbove s k = None
looks AwaitAbove s k = Some (flag s.kept Claim)
looks Release s k = None

-- What a go does; who has won goes to the place `won`.
abbrev pub goes : Contest → ℕ → ℕ → ℕ → Record → ℕ → Bool → Go
goes RaiseClaim won N p s k high = Settles Claim true (to LookBelow (leaving (first p) s))
goes LookBelow won N p s k high =
    picked s.left k (Moves (to PickAbove (leaving (above N p) s))) (cond high (Moves (to LowerClaim (keeping k s))) (Moves (leaving (without k s.left) s)))
goes LowerClaim won N p s k high = Settles Claim false (to AwaitLower s)
goes AwaitLower won N p s k high = cond high Waits (Moves (to RaiseClaim (leaving none s)))
goes PickAbove won N p s k high = picked s.left k (Moves (to_number won s)) (Moves (to AwaitAbove (keeping k s)))
goes AwaitAbove won N p s k high = cond high Waits (Moves (to PickAbove (leaving (without s.kept s.left) s)))
goes Release won N p s k high = Settles Claim false (to_number idle_place s)
