-- Words in which the rows of a step table are written.
use Rattle.std.specs.Prelude.{ℕ, Bool, false, cond, Some, None, Option}
use Rattle.steps.specs.declared.record.Record.{Record}
use Rattle.steps.specs.declared.lines.Part.{Part}
use Rattle.steps.specs.declared.lines.Flag.{Flag}
use Rattle.steps.specs.declared.go.Go.{Go}
use Rattle.steps.specs.declared.go.Go.TheVariants.{WrongPick}
use Rattle.sets.specs.declared.Set.{Set}
use Rattle.sets.specs.Sets.{has, is_none, none}

-- The places that every discipline has: not started, on the merge, to release it, failed.
abbrev pub idle_place : ℕ
idle_place = 21

abbrev pub merge_place : ℕ
merge_place = 37

abbrev pub release_place : ℕ
release_place = 38

abbrev pub failed_place : ℕ
failed_place = 39

abbrev pub new_record : Record
new_record = record { place = idle_place; side = false; kept = 0; left = none; copy = none }

-- A record but for one field.
abbrev pub to_number : ℕ → Record → Record
to_number n s = record s { place = n }

abbrev pub failed : Record
failed = to_number failed_place new_record

abbrev pub keeping : ℕ → Record → Record
keeping k s = record s { kept = k }

abbrev pub leaving : Set → Record → Record
leaving l s = record s { left = l }

abbrev pub copying : Set → Record → Record
copying l s = record s { copy = l }

abbrev pub onto : Bool → Record → Record
onto e s = record s { side = e }

-- A line by its name.
abbrev pub flag : ℕ → Part → Flag
flag q x = record { station = q; part = x }

-- By the set and the pick: one thing where the set is empty, another where the pick is a member.
abbrev pub picked : Set → ℕ → Go → Go → Go
picked l k empty member = cond (is_none l) empty (cond (has l k) member WrongPick)

-- The line read where the pick is a member.
abbrev pub picked_look : Set → ℕ → Flag → Option Flag
picked_look l k x = cond (has l k) (Some x) None
