-- What holds of two stations is kept by each go of the first.
use Rattle.std.proofs.Common.{◌≡◌, ℕ, suc, ◌≤◌, Bool, true, ◌≢◌, ◌⊎◌, inl, inr, arith}
use Rattle.std.proofs.lemmas.Bool.Decides.{nat_tests}
use Rattle.std.proofs.lemmas.Bool.{cases_Bool, cases_order, cases_eq}
use Rattle.sets.specs.Sets.{is_none}
use Rattle.steps.specs.FourLine.{view}
use Rattle.steps.specs.declared.four_line.FourPlace.TheVariants.{CopyTurns}
use Rattle.runs.specs.Runs.{Own}
use Rattle.sets.proofs.SetLaws.{without_at, plus_at, empty_at, has_small}
use Rattle.runs.proofs.ContestFacts.{low, Claiming, Apart}
use Rattle.runs.proofs.Four.Turns.{turn, own_turn, num, half, side_of}
use Rattle.runs.proofs.Four.Facts.{gone, came_to, view_23, SeenAs, Sound, Pair, Copy}
use Rattle.runs.proofs.Four.Facts.{Turned, TurnsOf, Seen, Ahead, First, Fresh, Stale, Copied, Later, TurnsLeft, Turned₂, Indoor₂}

-- A turn of side e that is not low is of a station that failed, or uses that side.
abbrev Live : Bool → Own → Type 0
Live e b = (turn e b ≡ low) ⊎ ((39 ≤ b.rec.place) ⊎ (b.rec.side ≡ e))

live : (e : Bool) (b : Own) → TurnsOf e b → Live e b
live e b h = grind arith

-- At 32 with nothing left nobody is ahead: who is would hold the merge, and of two that claim one has yet to look at the other.
none_ahead : (q r : ℕ) (a b : Own) (pq : Bool) → q ≢ r → a.rec.place ≡ 32 → is_none a.rec.left ≡ true → pq ≡ true
    → Copy r b.rec.side a.rec → Seen r a.rec b.rec pq → Ahead b.rec pq → Apart q r a b → Apart r q b a → ⊥
none_ahead q r a b pq ne at n on c s h up down =
    let m = empty_at a.rec.left r n in
    let z = s (omega arith, omega arith) on in
    let y = h on in
    let g : 34 ≤ b.rec.place = grind arith in
    let ca : Claiming a.rec.place = inr (omega arith, omega arith) in
    let cb : Claiming b.rec.place = inr (omega arith, omega arith) in
    elim (cases_order q r) [
      | inl same ↦ ne same
      | inr o ↦ elim o [ inl lt ↦ let v = up lt ca cb in grind arith | inr gt ↦ let v = down gt cb ca in grind arith ]
    ]

-- Each fact is kept by a go of q at any place, given what its lemma names.
module _ (N : ℕ) (w : ℕ → Own) (q r j : ℕ) (heard : Bool) (x : SeenAs (w q)) where
  abbrev now : Own
  now = gone N w q j heard

  seen_go : (pq : Bool) → Seen r (w q).rec (w r).rec pq → (pq ≡ true → 25 ≤ (w r).rec.place) → Turned (w r) → Seen r now.rec (w r).rec pq
  seen_go pq h v t =
      let m = half r (w r).rec.side in
      let o = side_of r (w r).rec.side in
      let n = empty_at (w q).rec.left (num r (w r).rec.side) in
      let z = has_small (w q).rec.left (num r (w r).rec.side) in
      grind (arith, nat_tests, without_at, plus_at)

  first_go : (pq : Bool) → First (w q).rec pq → ((w q).rec.place ≡ 32 → pq ≡ true → is_none (w q).rec.left ≡ true → ⊥) → First now.rec pq
  first_go pq h never = let b = cases_Bool pq in grind (arith, nat_tests)

  fresh_23 : (e : Bool) → view (w q).rec.place ≡ CopyTurns → Fresh q r e (w q).rec (w r).rec → Live e (w r) → Fresh q r e now.rec (w r).rec
  fresh_23 e y h t = let m = half r e in let o = side_of r e in rw y (grind (arith, nat_tests, plus_at))

  fresh_rest : (e : Bool) → (w q).rec.place ≢ 23 → Fresh q r e (w q).rec (w r).rec → Copy r e (w q).rec → Fresh q r e now.rec (w r).rec
  fresh_rest e n h c = grind (arith, nat_tests)

  fresh_go : (e : Bool) → Fresh q r e (w q).rec (w r).rec → TurnsOf e (w r) → Copy r e (w q).rec → Fresh q r e now.rec (w r).rec
  fresh_go e h t c =
      elim (cases_eq (w q).rec.place 23) [
        | inl y ↦ fresh_23 e (view_23 (w q).rec.place y) h (live e (w r) t)
        | inr n ↦ fresh_rest e n h c
      ]

  stale_go : (e qp : Bool) → Stale r e (w q).rec (w r).rec qp → TurnsOf e (w r) → Stale r e now.rec (w r).rec qp
  stale_go e qp h t = let m = half r e in let o = side_of r e in grind (arith, nat_tests, without_at, plus_at)

  copied_go : Copied r (w q).rec (w r).rec → TurnsOf (w r).rec.side (w r) → Copied r now.rec (w r).rec
  copied_go h t =
      let m = half r (w r).rec.side in
      let o = side_of r (w r).rec.side in
      grind (arith, nat_tests, without_at, plus_at)

  later_go : (t ca cb : ℕ) → Later r (w q).rec (w r).rec ca cb → cb ≤ t → Later r now.rec (w r).rec (came_to (suc t) (w q).rec now.rec ca) cb
  later_go t ca cb h c = grind (arith, nat_tests, without_at)

  turns_left_go : (e : Bool) → TurnsLeft q r e (w q).rec (w r).rec → TurnsOf e (w r) → Copy r e (w q).rec → TurnsLeft q r e now.rec (w r).rec
  turns_left_go e h t c = let m = half r e in let o = side_of r e in grind (arith, nat_tests, without_at, plus_at)

  turned_23 : (e : Bool) → view (w q).rec.place ≡ CopyTurns → Turned₂ q r e (own_turn (w q)) (w q).rec (w r).rec → TurnsOf e (w r)
      → Turned₂ q r e (own_turn now) now.rec (w r).rec
  turned_23 e y h t = let m = half r e in let o = side_of r e in rw y (grind (arith, nat_tests, plus_at))

  turned_rest : (e : Bool) → (w q).rec.place ≢ 23 → Turned₂ q r e (own_turn (w q)) (w q).rec (w r).rec → Copy r e (w q).rec
      → Turned₂ q r e (own_turn now) now.rec (w r).rec
  turned_rest e n h c = grind (arith, nat_tests, without_at)

  turned_go : (e : Bool) → Turned₂ q r e (own_turn (w q)) (w q).rec (w r).rec → TurnsOf e (w r) → Copy r e (w q).rec
      → Turned₂ q r e (own_turn now) now.rec (w r).rec
  turned_go e h t c =
      elim (cases_eq (w q).rec.place 23) [
        | inl y ↦ turned_23 e (view_23 (w q).rec.place y) h t
        | inr n ↦ turned_rest e n h c
      ]

  indoor_go : (e : Bool) → Indoor₂ q r e (w q).rec (w r).rec → TurnsOf e (w r) → Copy r e (w q).rec → Indoor₂ q r e now.rec (w r).rec
  indoor_go e h t c = let m = half r e in let o = side_of r e in grind (arith, nat_tests, without_at, plus_at)

  pub pair_go : (pq qp : Bool) (ca cb t : ℕ) → q ≢ r → cb ≤ t → Apart q r (w q) (w r) → Apart r q (w r) (w q)
      → ((e : Bool) → Sound q r e (w q)) → ((e : Bool) → Sound r q e (w r))
      → ((e : Bool) → Pair q r e (own_turn (w q)) (w q).rec (w r).rec pq qp ca cb)
      → (e : Bool) → Pair q r e (own_turn now) now.rec (w r).rec pq qp (came_to (suc t) (w q).rec now.rec ca) cb
  pair_go pq qp ca cb t ne le up down hqs hrs hs e =
      let hq = hqs e in
      let hr = hrs e in
      let h = hs e in
      let side : Bool = (w r).rec.side in
      record {
        seen = seen_go pq h.seen (λ c. (h.ahead c).0) hr.turned;
        ahead = h.ahead;
        first = first_go pq h.first (λ at on n. none_ahead q r (w q) (w r) pq ne at n on (hqs side).copy h.seen h.ahead up down);
        fresh = fresh_go e h.fresh hr.turns hq.copy;
        stale = stale_go e qp h.stale hr.turns;
        copied = copied_go h.copied (hrs side).turns;
        later = later_go t ca cb h.later le;
        turns_left = turns_left_go e h.turns_left hr.turns hq.copy;
        turned = turned_go e h.turned hr.turns hq.copy;
        indoor = indoor_go e h.indoor hr.turns hq.copy;
      }
