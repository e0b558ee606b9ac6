-- Each call is answered as follows from the history.
use Rattle.std.proofs.Common.{◌≡◌, refl, arith}
use Rattle.boards.specs.Lines.{Meaning}
use Rattle.steps.specs.declared.go.Go.{Go}
use Rattle.steps.specs.Table.{Table}
use Rattle.runs.specs.Runs.{Own, State, reply, of_go}
use Rattle.junction.specs.declared.state.Junction.{Junction}
use Rattle.junction.specs.Calls.{answered}
use Rattle.junction.specs.Promise.{Call, replied, call_answers, event}
use Rattle.junction.proofs.ByCall.{Alike, by_call}

go_answer : (g : Go) (o : Own) → answered g ≡ replied (of_go g o)
go_answer g o = grind arith

pub call_answered : {D B : Type 0} (t : Table) (m : Meaning B) (j : Junction D B) (s : State) → Alike t m j s → (c : Call) → call_answers t m j c ≡ replied (reply t j.size.stations j.name s (event t m j c))
call_answered t m j s h = by_call t m j s h (λ e j' a r. a ≡ replied r) (record {
  refusing = λ e x. refl;
  starting = λ p lt ul. refl;
  failing = λ p lt ul. refl;
  stirring = λ p lt ul. refl;
  going = λ p k g lt ul. go_answer g (s.own p);
  passing = λ p lt. refl;
  leaving = λ c lt. refl;
  voiding = λ c lt. refl;
})
