-- Where a play is written to.
use Rattle.std.specs.Prelude.{◌≡◌, ℕ}
use Rattle.trails.specs.Meaning.{held}
use Rattle.play.specs.declared.account.Account.{Account}
use Rattle.play.specs.Report.{Shown, Stands}

-- The same references are written to, so that the lenders find there what is written.
pub record Same (a b : Account) : Type 0 where
  pub out : b.out.ghost_name ≡ a.out.ghost_name
  pub grants : b.grants.ghost_name ≡ a.grants.ghost_name
  pub grant_slots : b.grants.now.slots.ghost_name ≡ a.grants.now.slots.ghost_name
  pub refusals : b.refusals.ghost_name ≡ a.refusals.ghost_name
  pub refusal_slots : b.refusals.now.slots.ghost_name ≡ a.refusals.now.slots.ghost_name

-- What a play shows was written there, a text of this length.
abbrev pub Tells : Shown → Account → Account → ℕ → Type 0
Tells x a b long = Stands x a.out.now b.out.now long (held a.grants.now) (held b.grants.now) (held a.refusals.now) (held b.refusals.now)
