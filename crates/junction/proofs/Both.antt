-- Splitting the junction, its answer and the history at once: the tests are equal, though not the same terms.
use Rattle.std.proofs.Common.{◌≡◌, Bool, true, false, cond, Some, None, Option, arith}
use Rattle.steps.specs.declared.answers.Refusal.{Refusal}
use Rattle.steps.specs.declared.answers.Refusal.TheVariants.{NoStation, Limit}
use Rattle.runs.specs.Runs.{Reply, refused}
use Rattle.junction.specs.Calls.{unless}

-- one test b of the junction, and the same test c of the history
pub all_by : {X Y Z : Type 0} (R : X → Y → Z → Type 0) (b c : Bool) → b ≡ c → (x x' : X) (y y' : Y) (z z' : Z) → (c ≡ true → R x y z) → (c ≡ false → R x' y' z') → R (cond b x x') (cond b y y') (cond c z z')
all_by R b c e x x' y y' z z' f g = grind arith

-- a call that the station's number (a) and the limit (b here, c there) allow, or refuse
pub allowing : {X Y : Type 0} (R : X → Y → Reply → Type 0) (old : X) (refuse : Refusal → Y) (a b c : Bool) → b ≡ c → (x : X) (y : Y) (r : Reply) → (a ≡ true → c ≡ true → R x y r) → ((e : Refusal) → R old (refuse e) (refused e)) → R (unless (cond a (cond b None (Some Limit)) (Some NoStation)) (λ _. old) x) (unless (cond a (cond b None (Some Limit)) (Some NoStation)) refuse y) (cond a (cond c r (refused Limit)) (refused NoStation))
allowing R old refuse a b c e x y r f g = let none = g NoStation in let full = g Limit in grind arith

-- a call that nothing refuses at first, or that changes nothing
pub unless_both : {X : Type 0} (P : X → Type 0) (o : Option Refusal) (x y : X) → P x → P y → P (unless o (λ _. y) x)
unless_both P None x y f g = f
unless_both P (Some e) x y f g = g
