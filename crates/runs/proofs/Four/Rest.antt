-- What holds of two stations is kept by each call but a go, of either.
use Rattle.std.proofs.Common.{◌≡◌, ℕ, ◌*◌, ◌<◌, ◌≤◌, Bool, false, cond, ◌&&◌, eqb, sym, refl, subst, arith}
use Rattle.std.proofs.lemmas.Bool.Decides.{nat_tests}
use Rattle.boards.specs.Lines.{Line}
use Rattle.steps.specs.declared.record.Record.{Record}
use Rattle.steps.specs.FourLine.{four_line}
use Rattle.steps.specs.Rows.{to_number, release_place, failed}
use Rattle.runs.specs.Runs.{Own, stirred}
use Rattle.sets.proofs.SetLaws.{first_at, none_at}
use Rattle.runs.proofs.Ghost.{in_way}
use Rattle.runs.proofs.Four.Turns.{own_turn, num, num_lt}
use Rattle.runs.proofs.Four.Facts.{came_to, SeenAs, Pair, Copy, Turned₂, Indoor₂}

-- A station that stays where it is does not come to 24.
came_same : (t n c : ℕ) → cond (eqb n 23 && eqb n 24) t c ≡ c
came_same t n c = grind (arith, nat_tests)

module _ {q r : ℕ} {e : Bool} {v : Line} {a b : Record} {pq qp : Bool} {ca cb : ℕ} (h : Pair q r e v a b pq qp ca cb) where
  -- A call that changes no record, of q and of r.

  pub first_same : (t : ℕ) → Pair q r e v a b pq qp (came_to t a a ca) cb
  first_same t = subst (λ c. Pair q r e v a b pq qp c cb) (sym (came_same t a.place ca)) h

  pub second_same : (t : ℕ) → Pair q r e v a b pq qp ca (came_to t b b cb)
  second_same t = subst (λ c. Pair q r e v a b pq qp ca c) (sym (came_same t b.place cb)) h

  -- A start of q, and of r.

  pub first_start : (N : ℕ) → N ≤ 16 → r < N → (v' : Line) (ca' : ℕ) → Pair q r e v' (four_line.starts N a) b (in_way b.place) qp ca' cb
  first_start N few ltr v' ca' =
      let c = none_at (num r e) in
      let d = none_at (num r b.side) in
      record {
        seen = let l = num_lt r N b.side ltr in let f = first_at (2 * N) (num r b.side) in grind (arith, nat_tests);
        ahead = grind (arith, nat_tests);
        first = grind arith;
        fresh = grind arith;
        stale = grind arith;
        copied = grind arith;
        later = grind arith;
        turns_left = grind arith;
        turned = grind arith;
        indoor = grind arith;
      }

  pub second_start : (N : ℕ) → b.place ≡ 21 → Copy r e a → (cb' : ℕ) → Pair q r e v a (four_line.starts N b) pq (in_way a.place) ca cb'
  second_start N at c cb' =
      record {
        seen = let x = h.ahead in grind arith;
        ahead = let x = h.ahead in grind arith;
        first = h.first;
        fresh = let x = h.fresh in grind arith;
        stale = let x = h.fresh in grind (arith, nat_tests);
        copied = let x = h.copied in grind arith;
        later = let x = h.copied in grind arith;
        turns_left = grind arith;
        turned = grind arith;
        indoor = grind arith;
      }

  -- A fail of q, and of r.

  pub first_fail : (v' : Line) (ca' : ℕ) → Pair q r e v' failed b pq false ca' cb
  first_fail v' ca' =
      let c = none_at (num r e) in
      let d = none_at (num r b.side) in
      record {
        seen = grind arith;
        ahead = h.ahead;
        first = grind arith;
        fresh = grind arith;
        stale = grind arith;
        copied = grind arith;
        later = grind arith;
        turns_left = grind arith;
        turned = grind arith;
        indoor = grind arith;
      }

  pub second_fail : (cb' : ℕ) → Pair q r e v a failed false qp ca cb'
  second_fail cb' =
      record {
        seen = grind arith;
        ahead = grind arith;
        first = λ _. refl;
        fresh = grind arith;
        stale = grind arith;
        copied = grind arith;
        later = grind arith;
        turns_left = grind arith;
        turned = grind arith;
        indoor = grind arith;
      }

  -- A leave of q, and of r.

  pub first_leave : a.place ≡ 37 → ((x : Bool) → Copy r x a) → (ca' : ℕ) → Pair q r e v (to_number release_place a) b pq false ca' cb
  first_leave at copies ca' =
      let c = copies e in
      let d = copies b.side in
      record {
        seen = let x = h.first in grind arith;
        ahead = h.ahead;
        first = let x = h.first in grind arith;
        fresh = grind arith;
        stale = grind arith;
        copied = h.copied;
        later = grind arith;
        turns_left = h.turns_left;
        turned = h.turned;
        indoor = grind arith;
      }

  pub second_leave : b.place ≡ 37 → (cb' : ℕ) → Pair q r e v a (to_number release_place b) false qp ca cb'
  second_leave at cb' =
      record {
        seen = grind arith;
        ahead = grind arith;
        first = λ _. refl;
        fresh = let x = h.fresh in grind arith;
        stale = grind arith;
        copied = let x = h.copied in grind arith;
        later = let x = h.copied in grind arith;
        turns_left = grind arith;
        turned = grind arith;
        indoor = grind arith;
      }

  -- A call of q that changes its own turn.
  pub other_turn : (v' : Line) → Turned₂ q r e v' a b → Pair q r e v' a b pq qp ca cb
  other_turn v' t = record {
    seen = h.seen;
    ahead = h.ahead;
    first = h.first;
    fresh = h.fresh;
    stale = h.stale;
    copied = h.copied;
    later = h.later;
    turns_left = h.turns_left;
    turned = t;
    indoor = h.indoor;
  }

-- A stir of q may loosen its turn only at 24, where it is in the doorway.
pub turned_stir : (N q r : ℕ) (e : Bool) (o : Own) (b : Record) → SeenAs o → Copy r e o.rec → Turned₂ q r e (own_turn o) o.rec b → Indoor₂ q r e o.rec b
    → Turned₂ q r e (own_turn (stirred four_line N q o)) o.rec b
turned_stir N q r e o b x c h i = grind (arith, nat_tests)
