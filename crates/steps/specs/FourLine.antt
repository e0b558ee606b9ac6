-- The four-line discipline as a step table: a door, a claim and two turns for each station.
use Rattle.std.specs.Prelude.{ℕ, ◌+◌, ◌*◌, ◌/◌, ◌%◌, Bool, true, false, cond, not, Some, None, Option, ◌==◌, nat_lt}
use Rattle.std.specs.Option.{option_map_or}
use Rattle.steps.specs.declared.record.Record.{Record}
use Rattle.steps.specs.declared.lines.Part.{Part}
use Rattle.steps.specs.declared.lines.Part.TheVariants.{Door, Claim, Turn}
use Rattle.steps.specs.declared.lines.Flag.{Flag}
use Rattle.steps.specs.declared.go.Go.{Go}
use Rattle.steps.specs.declared.go.Go.TheVariants.{Idle as Idles, Waits, MustLeave, Moves, Settles}
use Rattle.steps.specs.declared.contest.Contest.TheVariants.{RaiseClaim}
use Rattle.steps.specs.declared.four_line.FourPlace.{FourPlace}
use Rattle.steps.specs.declared.four_line.FourPlace.TheVariants.{Idle, OpenDoor, CopyTurns, RaiseTurn, CloseDoor, PickTurn, AwaitTurn, Contest, LowerTurn, PickDoor, AwaitDoor, Merging, Failed, ClearClaim, ClearTurn0, ClearTurn1, RecheckDoor, AwaitRecheckedDoor, RecheckTurn, AwaitRecheckedTurn}
use Rattle.sets.specs.Sets.{plus, without, none, first}
use Rattle.steps.specs.Rows.{idle_place, merge_place, failed_place, to_number, keeping, leaving, copying, onto, flag, picked, picked_look}
use Rattle.steps.specs.Contest as contest
use Rattle.steps.specs.Table.{Table}

abbrev pub label : FourPlace → ℕ
label Idle = idle_place
label OpenDoor = 22
label CopyTurns = 23
label RaiseTurn = 24
label CloseDoor = 25
label PickTurn = 26
label AwaitTurn = 27
label (Contest x) = contest.label x
label LowerTurn = 34
label PickDoor = 35
label AwaitDoor = 36
label Merging = merge_place
label Failed = failed_place
label ClearClaim = 40
label ClearTurn0 = 41
label ClearTurn1 = 42
label RecheckDoor = 43
label AwaitRecheckedDoor = 44
label RecheckTurn = 45
label AwaitRecheckedTurn = 46

-- The place of a number; a number that is no place stands for the idle one. Arguments look into it only where they say so.
unfoldable pub view : ℕ → FourPlace
view n =
    cond (n == 22) OpenDoor
    (cond (n == 23) CopyTurns
    (cond (n == 24) RaiseTurn
    (cond (n == 25) CloseDoor
    (cond (n == 26) PickTurn
    (cond (n == 27) AwaitTurn
    (cond (n == 34) LowerTurn
    (cond (n == 35) PickDoor
    (cond (n == 36) AwaitDoor
    (cond (n == 37) Merging
    (cond (n == 39) Failed
    (cond (n == 40) ClearClaim
    (cond (n == 41) ClearTurn0
    (cond (n == 42) ClearTurn1
    (cond (n == 43) RecheckDoor
    (cond (n == 44) AwaitRecheckedDoor
    (cond (n == 45) RecheckTurn
    (cond (n == 46) AwaitRecheckedTurn
    (option_map_or Contest (contest.place_of n) Idle))))))))))))))))))

abbrev pub to : FourPlace → Record → Record
to x s = to_number (label x) s

unfoldable pub odd : ℕ → Bool
odd k = k % 2 == 1

-- The line of turn number k = 2q + e: the turn of station q and side e.
abbrev pub turn : ℕ → Flag
turn k = flag (k / 2) (Turn (odd k))

-- The line that a go reads.
abbrev pub looks : FourPlace → Record → ℕ → Option Flag
looks Idle s k = None
looks OpenDoor s k = None
looks CopyTurns s k = picked_look s.left k (turn k)
looks RaiseTurn s k = None
looks CloseDoor s k = None
looks PickTurn s k = None
looks AwaitTurn s k = Some (turn s.kept)
looks (Contest x) s k = contest.looks x s k
looks LowerTurn s k = None
looks PickDoor s k = None
looks AwaitDoor s k = Some (flag s.kept Door)
looks Merging s k = None
looks Failed s k = None
looks ClearClaim s k = None
looks ClearTurn0 s k = None
looks ClearTurn1 s k = None
looks RecheckDoor s k = None
looks AwaitRecheckedDoor s k = Some (flag s.kept Door)
looks RecheckTurn s k = None
looks AwaitRecheckedTurn s k = Some (turn s.kept)

-- What a go does: of N stations, of station p, with this record, pick and reading.
abbrev pub goes : FourPlace → ℕ → ℕ → Record → ℕ → Bool → Go
goes Idle N p s k high = Idles
goes OpenDoor N p s k high = Settles Door true (to CopyTurns s)
goes CopyTurns N p s k high = picked s.left k (Moves (to RaiseTurn s)) (Moves (copying (cond high (plus k s.copy) s.copy) (leaving (without k s.left) s)))
goes RaiseTurn N p s k high = Settles (Turn s.side) true (to CloseDoor s)
goes CloseDoor N p s k high = Settles Door false (to PickTurn s)
goes PickTurn N p s k high = picked s.copy k (Moves (contest.to RaiseClaim s)) (Moves (to AwaitTurn (keeping k s)))
goes AwaitTurn N p s k high = cond high Waits (Moves (to PickTurn (copying (without s.kept s.copy) s)))
goes (Contest x) N p s k high = contest.goes x (label LowerTurn) N p s k high
goes LowerTurn N p s k high = Settles (Turn s.side) false (to PickDoor (leaving (first N) (onto (not s.side) s)))
goes PickDoor N p s k high = picked s.left k (Moves (to Merging s)) (Moves (to AwaitDoor (keeping k s)))
goes AwaitDoor N p s k high = cond high Waits (Moves (to PickDoor (leaving (without s.kept s.left) s)))
goes Merging N p s k high = MustLeave
goes Failed N p s k high = Settles Door false (to ClearClaim s)
goes ClearClaim N p s k high = Settles Claim false (to ClearTurn0 s)
goes ClearTurn0 N p s k high = Settles (Turn false) false (to ClearTurn1 s)
goes ClearTurn1 N p s k high = Settles (Turn true) false (to RecheckDoor (leaving (first N) s))
goes RecheckDoor N p s k high = picked s.left k (Moves (to RecheckTurn (leaving (first (2 * N)) s))) (Moves (to AwaitRecheckedDoor (keeping k s)))
goes AwaitRecheckedDoor N p s k high = cond high Waits (Moves (to RecheckDoor (leaving (without s.kept s.left) s)))
goes RecheckTurn N p s k high = picked s.left k (Moves (to Idle s)) (Moves (to AwaitRecheckedTurn (keeping k s)))
goes AwaitRecheckedTurn N p s k high = cond high Waits (Moves (to RecheckTurn (leaving (without s.kept s.left) s)))

-- Where a part stands among the four lines of its station.
abbrev pub offset : Part → ℕ
offset Door = 0
offset Claim = 1
offset (Turn e) = cond e 3 2

abbrev pub four_line : Table
four_line = record {
  per = 4;
  number = λ N x. cond (nat_lt x.station N) (Some (4 * x.station + offset x.part)) None;
  grant = label LowerTurn;
  starts = λ N s. to OpenDoor (leaving (first (2 * N)) (copying none s));
  looks = λ N p s k. looks (view s.place) s k;
  goes = λ N p s k high. goes (view s.place) N p s k high;
}
