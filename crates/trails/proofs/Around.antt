-- What a put makes of the slots read backward, and where the entry of an age stands.
use Rattle.std.proofs.Common.{◌≡◌, ℕ, zero, suc, ◌+◌, ◌-◌, ◌%◌, ◌<◌, ◌≤◌, min, ◌⊎◌, List, [], ◌∷◌, ◌++◌, reverse, length, get_or, take, drop, set, Some, None, sym, refl, ap, ◌∙◌, inl, inr, ⊎_elim, not-suc-le-zero, arith, le-ltb, lt-ltb, mod-eq_of_lt}
use Rattle.std.proofs.Math.Nat.{mod_self}
use Rattle.std.proofs.lemmas.Bool.{cases_lt}
use Rattle.std.proofs.lemmas.Grind.{common_steps}
use Rattle.std.proofs.lemmas.List.{length-take, length-drop, length-append, length-reverse, length-set, take_more_set, drop-set-lt, drop_more, reverse-append, append_assoc, take_at, get_or-reverse, get_or_append_left, get_or-append_right, get_or-take, get_or-drop}
use Rattle.trails.specs.Held.{most_puts, put_onto, aged, slot_behind, around, newest}
use Rattle.trails.specs.Meaning.{held_of}

-- The next slot, counted round.
wrapped : (next n : ℕ) → next < n → (next + 1) % n ≡ slot_behind next n
wrapped next n h =
    ⊎_elim (λ (a : next + 1 < n). rw (lt-ltb (next + 1) n a) (mod-eq_of_lt a))
    (λ (b : n ≤ next + 1). let e : next + 1 ≡ n = omega arith in rw (le-ltb (next + 1) n b, e) (mod_self n))
    (cases_lt (next + 1) n)

module _ {X : Type 0} where
  pub length_around : (s : List X) (next : ℕ) → next ≤ length s → length (around s next) ≡ length s
  length_around s next h = grind (arith, common_steps)

  -- one more written, the next slot being the one behind it
  pub around_put : (s : List X) (next : ℕ) (x : X) → next < length s → around (set s next x) (next + 1) ≡ x ∷ take (length s - 1) (around s next)
  around_put s next x h =
      let a : reverse (take (next + 1) (set s next x)) ≡ x ∷ reverse (take next s) =
      ap reverse (take_more_set s next x h) ∙ reverse-append (take next s) (x ∷ []) in
      let b : drop (next + 1) (set s next x) ≡ drop (next + 1) s = drop-set-lt (next + 1) s next x (omega arith) in
      let d : reverse (drop next s) ≡ reverse (drop (next + 1) s) ++ (get_or s next x ∷ []) =
      ap reverse (drop_more s next x h) ∙ reverse-append (get_or s next x ∷ []) (drop (next + 1) s) in
      let f : around s next ≡ (reverse (take next s) ++ reverse (drop (next + 1) s)) ++ (get_or s next x ∷ []) =
      ap (λ (r : List X). reverse (take next s) ++ r) d ∙ sym (append_assoc (reverse (take next s)) (reverse (drop (next + 1) s)) (get_or s next x ∷ [])) in
      let l : length (reverse (take next s) ++ reverse (drop (next + 1) s)) ≡ length s - 1 =
      simp (length-append, length-reverse, length-take, length-drop) (omega arith) in
      let t : take (length s - 1) (around s next) ≡ reverse (take next s) ++ reverse (drop (next + 1) s) =
      ap (take (length s - 1)) f ∙ take_at _ _ (length s - 1) l in
      cc

  -- past the last slot comes the first
  pub around_full : (s : List X) (n : ℕ) → n ≡ length s → around s 0 ≡ around s n
  around_full s n e = grind (arith, common_steps)

  take_both : (n m h : ℕ) (l : List X) (x : X) → n ≡ suc m → take (min n (h + 1)) (x ∷ take m l) ≡ take n (x ∷ take h l)
  take_both n m h l x s = grind (arith, common_steps)

  around_behind : (s : List X) (next : ℕ) (x : X) → next < length s → around (set s next x) (slot_behind next (length s)) ≡ x ∷ take (length s - 1) (around s next)
  around_behind s next x h =
      ⊎_elim (λ (a : next + 1 < length s). rw (lt-ltb (next + 1) (length s) a) (around_put s next x h))
      (λ (b : length s ≤ next + 1). let e : next + 1 ≡ length s = omega arith in rw (le-ltb (next + 1) (length s) b) (around_full (set s next x) (next + 1) (e ∙ sym (length-set s next x)) ∙ around_put s next x h))
      (cases_lt (next + 1) (length s))

  pub newest_put : (s : List X) (next used : ℕ) (x : X) → next < length s → newest (set s next x) (slot_behind next (length s)) (min (length s) (used + 1)) ≡ take (length s) (x ∷ newest s next used)
  newest_put s next used x h =
      rw (around_behind s next x h) (take_both (length s) (length s - 1) used (around s next) x (omega arith))

  -- What a put makes of a trail over slots.
  pub held_put : (s : List X) (next used count used' count' : ℕ) (x : X) → next < length s → used' ≡ min (length s) (used + 1) → count' ≡ min (count + 1) most_puts
      → held_of (set s next x) ((next + 1) % length s) used' count' ≡ put_onto (held_of s next used count) x
  unfolding put_onto
  held_put s next used count used' count' x h u c = rw (wrapped next (length s) h, u, c) (λ i. record { entries = newest_put s next used x h i; puts = min (count + 1) most_puts; memory = set s next x; place = slot_behind next (length s) })

  pub aged_none : (xs : List X) (k : ℕ) → length xs ≤ k → aged xs k ≡ None
  aged_none [] k h = refl
  aged_none (x ∷ xs) zero h = absurd (not-suc-le-zero h)
  aged_none (x ∷ xs) (suc k) h = aged_none xs k (omega arith)

  pub aged_some : (xs : List X) (k : ℕ) (d : X) → k < length xs → aged xs k ≡ Some (get_or xs k d)
  aged_some [] k d h = absurd (not-suc-le-zero h)
  aged_some (x ∷ xs) zero d h = refl
  aged_some (x ∷ xs) (suc k) d h = aged_some xs k d (omega arith)

  get_or_around : (s : List X) (next age i : ℕ) (d : X) → next ≤ length s → age < length s
      → ((age < next) × (i + 1 + age ≡ next)) ⊎ ((next ≤ age) × (i + 1 + age ≡ length s + next))
      → get_or (around s next) age d ≡ get_or s i d
  get_or_around s next age i d hn ha (inl e) =
      let l : length (take next s) ≡ next = simp length-take (omega arith) in
      let k : age < length (reverse (take next s)) = simp length-reverse (omega arith) in
      let m : length (take next s) - 1 - age ≡ i = omega arith in
      get_or_append_left (reverse (take next s)) (reverse (drop next s)) d age k
      ∙ get_or-reverse (take next s) age d (omega arith)
      ∙ rw m (get_or-take next s i d (omega arith))
  get_or_around s next age i d hn ha (inr e) =
      let l : length (reverse (take next s)) ≡ next = simp (length-reverse, length-take) (omega arith) in
      let q : length (drop next s) ≡ length s - next = length-drop next s in
      let m : next + (length (drop next s) - 1 - (age - next)) ≡ i = omega arith in
      get_or-append_right (reverse (take next s)) (reverse (drop next s)) next age d l e.0
      ∙ get_or-reverse (drop next s) (age - next) d (omega arith)
      ∙ get_or-drop next s (length (drop next s) - 1 - (age - next)) d
      ∙ ap (λ (k : ℕ). get_or s k d) m

  pub newest_aged : (s : List X) (next used age i : ℕ) (d : X) → next ≤ length s - 1 → used ≤ length s → age < used
      → ((age < next) × (i + 1 + age ≡ next)) ⊎ ((next ≤ age) × (i + 1 + age ≡ length s + next))
      → aged (newest s next used) age ≡ Some (get_or s i d)
  newest_aged s next used age i d hn hh ha c =
      let l : length (around s next) ≡ length s = length_around s next (omega arith) in
      let t : age < length (newest s next used) = simp length-take (omega arith) in
      aged_some (newest s next used) age d t ∙ ap Some (get_or-take used (around s next) age d ha ∙ get_or_around s next age i d (omega arith) (omega arith) c)
