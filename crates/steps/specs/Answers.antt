-- The numbers of what a call is answered, and its words.
use Rattle.std.specs.Prelude.{ℕ, List, Result, codes}
use Rattle.numbers.specs.Numbers.{number_of}
use Rattle.steps.specs.declared.answers.Outcome.{Outcome}
use Rattle.steps.specs.declared.answers.Outcome.TheVariants.{Accepted, Waits, Idle}
use Rattle.steps.specs.declared.answers.Refusal.{Refusal}
use Rattle.steps.specs.declared.answers.Refusal.TheVariants.{NoStation, NotIdle, WrongPick, MustLeave, NothingToSettle, HasFailed, NoPass, NotCurrent, StillCurrent, Limit}

abbrev pub outcome_number : Outcome → ℕ
outcome_number Accepted = 0
outcome_number Waits = 50
outcome_number Idle = 51

abbrev pub refusal_number : Refusal → ℕ
refusal_number NoStation = 3
refusal_number NotIdle = 4
refusal_number WrongPick = 5
refusal_number MustLeave = 6
refusal_number NothingToSettle = 7
refusal_number HasFailed = 8
refusal_number NoPass = 9
refusal_number NotCurrent = 10
refusal_number StillCurrent = 11
refusal_number Limit = 12

abbrev pub answer_number : Result Outcome Refusal → ℕ
answer_number = number_of outcome_number refusal_number

abbrev pub outcome_text : Outcome → List ℕ
outcome_text Accepted = codes "accepted"
outcome_text Waits = codes "waits"
outcome_text Idle = codes "idle"

abbrev pub refusal_text : Refusal → List ℕ
refusal_text NoStation = codes "no station of that number"
refusal_text NotIdle = codes "the station is not idle"
refusal_text WrongPick = codes "the pick is not in the set"
refusal_text MustLeave = codes "the station is on the merge"
refusal_text NothingToSettle = codes "the next go settles no line"
refusal_text HasFailed = codes "the station has failed"
refusal_text NoPass = codes "the station has no pass to take"
refusal_text NotCurrent = codes "the pass is not current"
refusal_text StillCurrent = codes "the pass is still current"
refusal_text Limit = codes "the limit of calls is reached"
