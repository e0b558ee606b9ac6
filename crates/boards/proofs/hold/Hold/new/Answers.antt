use Rattle.boards.specs.Hold.{hold_lawful}
use Rattle.boards.proofs.Last.{answers_last}
use Rattle.boards.proofs.hold.Hold.new.Goals as goal

pub returns-clause-last : goal.returns-clause-last
returns-clause-last c = rw c.over.ensures.value (answers_last _)

pub returns-clause-lawful : goal.returns-clause-lawful
returns-clause-lawful c = hold_lawful
