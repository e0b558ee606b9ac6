use Rattle.boards.specs.Tape.{tape_lawful}
use Rattle.boards.proofs.InTurn.{in_turn}
use Rattle.boards.proofs.tape.Tape.new.Goals as goal

pub returns-clause-bits : goal.returns-clause-bits
returns-clause-bits c = rw c.over.ensures.value (in_turn _ _)

pub returns-clause-lawful : goal.returns-clause-lawful
returns-clause-lawful c = tape_lawful
