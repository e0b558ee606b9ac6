-- A go that is refused reads no line: a pick is tested before anything is read, and on the merge nothing is.
use Rattle.std.proofs.Common.{◌≡◌, ℕ, Bool, true, None, arith}
use Rattle.std.proofs.lemmas.Bool.Decides.{nat_tests}
use Rattle.steps.specs.declared.record.Record.{Record}
use Rattle.steps.specs.declared.plain.PlainPlace.{PlainPlace}
use Rattle.steps.specs.declared.four_line.FourPlace.{FourPlace}
use Rattle.runs.specs.Runs.{refuses}
use Rattle.steps.specs.Plain as plain
use Rattle.steps.specs.FourLine as four

pub plain_unread : (x : PlainPlace) (N p : ℕ) (s : Record) (k : ℕ) (high : Bool) → refuses (plain.goes x N p s k high) ≡ true → plain.looks x s k ≡ None
plain_unread x N p s k high e = grind (arith, nat_tests)

pub four_unread : (x : FourPlace) (N p : ℕ) (s : Record) (k : ℕ) (high : Bool) → refuses (four.goes x N p s k high) ≡ true → four.looks x s k ≡ None
four_unread x N p s k high e = grind (arith, nat_tests)
