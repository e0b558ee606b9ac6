-- The number of a refused call on a board, and its words.
use Rattle.std.specs.Prelude.{ℕ, List, codes}
use Rattle.boards.specs.declared.board.Refused.{Refused}
use Rattle.boards.specs.declared.board.Refused.TheVariants.{NoLine}

abbrev pub refused_number : Refused → ℕ
refused_number NoLine = 30

abbrev pub refused_text : Refused → List ℕ
refused_text NoLine = codes "no line of that number"
