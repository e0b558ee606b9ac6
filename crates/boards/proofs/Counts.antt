-- No calls change the count of a lawful board.
use Rattle.std.proofs.Common.{◌≡◌, List, [], ◌∷◌, refl, arith}
use Rattle.std.proofs.lemmas.Bool.Decides.{nat_tests}
use Rattle.boards.specs.Lines.{Meaning, Lawful}
use Rattle.boards.specs.Runs.{Call, read, loosen, settle, after}

pub count_kept : {B : Type 0} (m : Meaning B) (law : Lawful m) (b : B) (cs : List Call) → m.count (after m b cs) ≡ m.count b
count_kept m law b [] = refl
count_kept m law b (read i ∷ cs) = grind (arith, nat_tests, law.read_count, count_kept m law b cs)
count_kept m law b (loosen i ∷ cs) = grind (arith, nat_tests, law.loosen_count, count_kept m law b cs)
count_kept m law b (settle i v ∷ cs) = grind (arith, nat_tests, law.settle_count, count_kept m law b cs)
