use Rattle.std.proofs.Common.{refl}
use Rattle.boards.proofs.Fresh.{all_low}
use Rattle.boards.proofs.cell_board.CellBoard.over.Goals as goal

pub returns-clause-fresh : goal.returns-clause-fresh
returns-clause-fresh g c = rw c.new.ensures (record { counted = refl; low = all_low c.args.lines })
