-- What the hold board means: a loose line answers the value last settled there.
use Rattle.std.specs.Prelude.{◌≡◌, ℕ, ◌<◌, List, refl}
use Rattle.boards.specs.Lines.{Meaning, Lawful}
use Rattle.boards.specs.Runs.{Call, after, last_settled}
use Rattle.boards.specs.CellBoard.{cell_board, cell_board_lawful, new_board}
use Rattle.boards.specs.declared.cell_board.CellBoard.{CellBoard}
use Rattle.boards.specs.declared.hold.Last.{Last}

abbrev pub Hold : Type 0
Hold = CellBoard Last

abbrev pub new_hold : ℕ → Hold
new_hold n = new_board n (record {})

abbrev pub hold : Meaning Hold
hold = cell_board (λ r c. c.last) (λ r c. r)

pub hold_lawful : Lawful hold
hold_lawful = cell_board_lawful _ _ (λ r c e. refl)

-- After any calls each line, loose or not, answers the value last settled there.
abbrev pub AnswersLast : Hold → Type 0
AnswersLast b = (cs : List Call) (i : ℕ) → i < hold.count b → hold.answer (after hold b cs) i ≡ last_settled i cs
