-- What a trail holds, and what a put makes of it.
use Rattle.std.specs.Prelude.{◌≡◌, ℕ, zero, suc, ◌+◌, min, cond, List, [], ◌∷◌, ◌++◌, reverse, length, take, drop, Some, None, Option, nat_lt, slice_set}

-- The count of puts stays at this.
abbrev pub most_puts : ℕ
most_puts = 4000000000

-- All that is known of a trail: its entries, newest first, how many were put, what the lent slots hold, and the slot of the next put.
pub record Held (X : Type 0) : Type 0 where
  pub entries : List X
  pub puts : ℕ
  pub memory : List X
  pub place : ℕ

-- How many entries it can hold.
abbrev pub room : {X : Type 0} → Held X → ℕ
room h = length h.memory

-- The slot behind `place` of n slots, the first behind the last.
abbrev pub slot_behind : ℕ → ℕ → ℕ
slot_behind place n = cond (nat_lt (place + 1) n) (place + 1) 0

-- Nothing was put yet.
unfoldable pub none_put : {X : Type 0} → List X → Held X
none_put slots = record { entries = []; puts = 0; memory = slots; place = 0 }

-- One more put: the newest goes in front, and the oldest goes where there is no room.
unfoldable pub put_onto : {X : Type 0} → Held X → X → Held X
put_onto h x = record {
  entries = take (room h) (x ∷ h.entries);
  puts = min (h.puts + 1) most_puts;
  memory = slice_set h.memory h.place x;
  place = slot_behind h.place (room h);
}

-- The entry of an age, where 0 is the newest.
abbrev pub aged : {X : Type 0} → List X → ℕ → Option X
aged [] age = None
aged (x ∷ xs) age = elim age [ zero ↦ Some x | suc k ↦ aged xs k ]

-- The slots read backward from the slot before `next`, going round once.
abbrev pub around : {X : Type 0} → List X → ℕ → List X
around slots next = reverse (take next slots) ++ reverse (drop next slots)

-- The newest `used` of these.
abbrev pub newest : {X : Type 0} → List X → ℕ → ℕ → List X
newest slots next used = take used (around slots next)

-- Many puts, one after another.
abbrev pub all_put : {X : Type 0} → Held X → List X → Held X
all_put h [] = h
all_put h (x ∷ xs) = all_put (put_onto h x) xs

-- Whatever is put, the newest of it is held, as much as there is room for, and all of it is counted, up to the most.
-- The lender finds the entries in its slots, backward from the slot of the next put.
pub record HoldsNewest {X : Type 0} (h : Held X) : Type 0 where
  pub entries : (xs : List X) → (all_put h xs).entries ≡ take (room h) (reverse xs)
  pub puts : (xs : List X) → (all_put h xs).puts ≡ min (length xs) most_puts
  pub slots : (xs : List X) → (all_put h xs).entries ≡ newest (all_put h xs).memory (all_put h xs).place (min (length xs) (room h))
