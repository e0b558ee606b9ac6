-- What holds of two stations is kept by each go of the second.
use Rattle.std.proofs.Common.{◌≡◌, ℕ, suc, ◌<◌, ◌≤◌, Bool, true, not, arith}
use Rattle.std.proofs.lemmas.Bool.Decides.{nat_tests}
use Rattle.sets.specs.Sets.{has}
use Rattle.runs.specs.Runs.{Own}
use Rattle.sets.proofs.SetLaws.{without_at, first_at, empty_at}
use Rattle.runs.proofs.Four.Turns.{own_turn, num, half, side_of, num_lt}
use Rattle.runs.proofs.Four.Facts.{gone, came_to, SeenAs, Sound, Pair, Copy}
use Rattle.runs.proofs.Four.Facts.{Turned, Indoor, Seen, Ahead, First, Fresh, Stale, Copied, Later, TurnsLeft, Turned₂, Indoor₂}

-- Each fact is kept by a go of r at any place, given what its lemma names.
module _ (N : ℕ) (few : N ≤ 16) (w : ℕ → Own) (q r j : ℕ) (heard : Bool) (x : SeenAs (w r)) where
  abbrev now : Own
  now = gone N w r j heard

  seen_go : (pq : Bool) → Seen r (w q).rec (w r).rec pq → Ahead (w r).rec pq → Seen r (w q).rec now.rec pq
  seen_go pq h v = grind (arith, nat_tests)

  ahead_go : (pq : Bool) → Ahead (w r).rec pq → Ahead now.rec pq
  ahead_go pq h = grind (arith, nat_tests)

  fresh_go : (e : Bool) → q < N → Fresh q r e (w q).rec (w r).rec → Indoor (w q)
      → (has (w q).rec.copy (num r e) ≡ true → 43 ≤ (w r).rec.place → (w q).rec.place ≤ 24 → (w r).rec.place ≤ 44)
      → Fresh q r e (w q).rec now.rec
  fresh_go e ltq h d i = let n = empty_at (w r).rec.left q in grind (arith, nat_tests, without_at, first_at)

  stale_go : (e qp : Bool) → Stale r e (w q).rec (w r).rec qp → Stale r e (w q).rec now.rec qp
  stale_go e qp h = grind (arith, nat_tests)

  copied_go : (qp : Bool) → Copied r (w q).rec (w r).rec → First (w r).rec qp → Stale r (not (w r).rec.side) (w q).rec (w r).rec qp
      → TurnsLeft q r (w r).rec.side (w q).rec (w r).rec → Copied r (w q).rec now.rec
  copied_go qp h f s l = let n = empty_at (w r).rec.left (num q (w q).rec.side) in grind (arith, nat_tests)

  later_go : (qp : Bool) (t ca cb : ℕ) → Later r (w q).rec (w r).rec ca cb
      → Copied r (w q).rec (w r).rec → First (w r).rec qp → Stale r (not (w r).rec.side) (w q).rec (w r).rec qp
      → TurnsLeft q r (w r).rec.side (w q).rec (w r).rec → Later r (w q).rec now.rec ca (came_to (suc t) (w r).rec now.rec cb)
  later_go qp t ca cb h c f s l = let n = empty_at (w r).rec.left (num q (w q).rec.side) in grind (arith, nat_tests)

  turns_left_go : (e : Bool) → q < N → TurnsLeft q r e (w q).rec (w r).rec → Turned₂ q r e (own_turn (w q)) (w q).rec (w r).rec
      → TurnsLeft q r e (w q).rec now.rec
  turns_left_go e ltq h t =
      let m = half q (w q).rec.side in
      let o = side_of q (w q).rec.side in
      let n = num_lt q N (w q).rec.side in
      grind (arith, nat_tests, without_at, first_at)

  turned_go : (e : Bool) → q < N → Turned₂ q r e (own_turn (w q)) (w q).rec (w r).rec → Indoor (w q) → Turned (w q) → Copy r e (w q).rec
      → Turned₂ q r e (own_turn (w q)) (w q).rec now.rec
  turned_go e ltq h i t c = let n = empty_at (w r).rec.left q in grind (arith, nat_tests, without_at, first_at)

  indoor_go : (e : Bool) → q < N → Indoor₂ q r e (w q).rec (w r).rec → Indoor (w q) → Copy r e (w q).rec → Indoor₂ q r e (w q).rec now.rec
  indoor_go e ltq h i c = let n = empty_at (w r).rec.left q in grind (arith, nat_tests, without_at, first_at)

  pub pair_go : (pq qp : Bool) (ca cb t : ℕ) → q < N → ((e : Bool) → Sound q r e (w q))
      → ((e : Bool) → Pair q r e (own_turn (w q)) (w q).rec (w r).rec pq qp ca cb)
      → ((e : Bool) → Pair r q e (own_turn (w r)) (w r).rec (w q).rec qp pq cb ca)
      → (e : Bool) → Pair q r e (own_turn (w q)) (w q).rec now.rec pq qp ca (came_to (suc t) (w r).rec now.rec cb)
  pair_go pq qp ca cb t ltq hqs hs gs e =
      let hq = hqs e in
      let h = hs e in
      let first = (gs e).first in
      let stale = (hs (not (w r).rec.side)).stale in
      let left = (hs (w r).rec.side).turns_left in
      record {
        seen = seen_go pq h.seen h.ahead;
        ahead = ahead_go pq h.ahead;
        first = h.first;
        fresh = fresh_go e ltq h.fresh hq.indoor (λ c f d. (h.indoor c f d).0);
        stale = stale_go e qp h.stale;
        copied = copied_go qp h.copied first stale left;
        later = later_go qp t ca cb h.later h.copied first stale left;
        turns_left = turns_left_go e ltq h.turns_left h.turned;
        turned = turned_go e ltq h.turned hq.indoor hq.turned hq.copy;
        indoor = indoor_go e ltq h.indoor hq.indoor hq.copy;
      }
