-- Where each number stands in the line.
use Rattle.std.proofs.Common.{arith}
use Rattle.report.proofs.lines.event_line.Goals as goal

pub returns-clause-line : goal.returns-clause-line
returns-clause-line c = simp (c.copy_from_slice.ensures.after, c.copy_from_slice-2.ensures.after, c.copy_from_slice-3.ensures.after, c.digits.ensures, c.digits-2.ensures, c.digits-3.ensures, c.from.ensures, c.from-2.ensures, c.from-3.ensures)

pub returns-clause-answer : goal.returns-clause-answer
returns-clause-answer c = simp (c.copy_from_slice.ensures.after, c.copy_from_slice-2.ensures.after, c.copy_from_slice-3.ensures.after, c.digits.ensures, c.digits-2.ensures, c.digits-3.ensures, c.from-3.ensures) (omega arith)
