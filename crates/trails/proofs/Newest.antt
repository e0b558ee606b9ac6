-- What many puts make of a trail.
use Rattle.std.proofs.Common.{◌≡◌, ℕ, zero, suc, ◌+◌, ◌-◌, ◌≤◌, min, List, [], ◌∷◌, ◌++◌, reverse, length, take, set, sym, refl, ap, ◌∙◌, zero-add, arith}
use Rattle.std.proofs.lemmas.List.{reverse-append, append_assoc, append-nil, length-set}
use Rattle.std.proofs.lemmas.Bool.Decides.{nat_tests}
use Rattle.std.proofs.lemmas.Grind.{common_steps}
use Rattle.trails.proofs.Around.{newest_put}
use Rattle.trails.specs.Held.{newest, slot_behind, Held, most_puts, room, none_put, put_onto, all_put, HoldsNewest}

module _ {X : Type 0} where
  take_none : (n : ℕ) → take {A = X} n [] ≡ []
  take_none n = grind (arith, common_steps)

  take_cons : (n : ℕ) (x : X) (es : List X) → take n (x ∷ take n es) ≡ take n (x ∷ es)
  take_cons n x es = grind (arith, common_steps)

  room_kept : (h : Held X) (x : X) → room (put_onto h x) ≡ room h
  unfolding put_onto
  room_kept h x = length-set h.memory h.place x

  onto_entries : (h : Held X) (x : X) (es : List X) → h.entries ≡ take (room h) es → (put_onto h x).entries ≡ take (room (put_onto h x)) (x ∷ es)
  unfolding put_onto
  onto_entries h x es e = rw (length-set h.memory h.place x, e) (take_cons (room h) x es)

  onto_puts : (h : Held X) (x : X) → (put_onto h x).puts ≡ min (h.puts + 1) most_puts
  unfolding put_onto
  onto_puts h x = refl

  all_entries : (h : Held X) (xs es : List X) → h.entries ≡ take (room h) es → (all_put h xs).entries ≡ take (room h) (reverse xs ++ es)
  all_entries h [] es e = e
  all_entries h (x ∷ xs) es e =
      let ih = all_entries (put_onto h x) xs (x ∷ es) (onto_entries h x es e) in
      let r : reverse (x ∷ xs) ++ es ≡ reverse xs ++ (x ∷ es) = ap (λ (l : List X). l ++ es) (reverse-append (x ∷ []) xs) ∙ append_assoc (reverse xs) (x ∷ []) es in
      rw r (rw (room_kept h x) at ih)

  all_puts : (h : Held X) (xs : List X) → h.puts ≤ most_puts → (all_put h xs).puts ≡ min (h.puts + length xs) most_puts
  all_puts h [] le = omega arith
  all_puts h (x ∷ xs) le =
      let p = onto_puts h x in
      let ih = all_puts (put_onto h x) xs (omega arith) in
      omega arith

behind_below : (place n : ℕ) → slot_behind place n ≤ n - 1
behind_below place n = grind (arith, nat_tests)

module _ {X : Type 0} where
  -- the entries stand in the slots, and u of them are in use
  record Lies (h : Held X) (u : ℕ) : Type 0 where
    below : h.place ≤ room h - 1
    stand : h.entries ≡ newest h.memory h.place u

  put_stand : (n : ℕ) (h : Held X) (x : X) (u : ℕ) → n ≡ room h → Lies h u → take (room h) (x ∷ h.entries) ≡ newest (set h.memory h.place x) (slot_behind h.place (room h)) (min (room h) (u + 1))
  put_stand zero h x u e l = let z : min (room h) (u + 1) ≡ 0 = omega arith in rw (z, ← e)
  put_stand (suc n) h x u e l = let b = l.below in rw l.stand (sym (newest_put h.memory h.place u x (omega arith)))

  put_lies : (h : Held X) (x : X) (u : ℕ) → Lies h u → Lies (put_onto h x) (min (room h) (u + 1))
  unfolding put_onto
  put_lies h x u l = record {
    below = rw (length-set h.memory h.place x) (behind_below h.place (room h));
    stand = put_stand (room h) h x u refl l;
  }

  all_lie : (h : Held X) (xs : List X) (u : ℕ) → u ≤ room h → Lies h u → (all_put h xs).entries ≡ newest (all_put h xs).memory (all_put h xs).place (min (u + length xs) (room h))
  all_lie h [] u le l = let e : min (u + 0) (room h) ≡ u = omega arith in rw e l.stand
  all_lie h (x ∷ xs) u le l =
      let k = room_kept h x in
      let ih = all_lie (put_onto h x) xs (min (room h) (u + 1)) (omega arith) (put_lies h x u l) in
      let e : min (min (room h) (u + 1) + length xs) (room (put_onto h x)) ≡ min (u + suc (length xs)) (room h) = omega arith in
      rw e at ih

pub newest_held : {X : Type 0} (slots : List X) → HoldsNewest (none_put slots)
unfolding none_put
newest_held slots = record {
  entries = λ xs. all_entries (none_put slots) xs [] (sym (take_none (length slots))) ∙ ap (take (length slots)) (append-nil (reverse xs));
  puts = λ xs. let p = all_puts (none_put slots) xs (omega arith) in omega arith;
  slots = λ xs. rw zero-add at (all_lie (none_put slots) xs 0 (omega arith) (record { below = omega arith; stand = refl }));
}
