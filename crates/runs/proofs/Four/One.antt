-- What holds of one station is kept by each of its calls.
use Rattle.std.proofs.Common.{◌≡◌, ℕ, Bool, arith}
use Rattle.std.proofs.lemmas.Bool.Decides.{nat_tests}
use Rattle.steps.specs.FourLine.{four_line}
use Rattle.steps.specs.Rows.{to_number, release_place, failed}
use Rattle.runs.specs.Runs.{Own, stands, takes, stirred}
use Rattle.sets.proofs.SetLaws.{without_at, plus_at, none_at, empty_at}
use Rattle.runs.proofs.Four.Turns.{num, half, side_of}
use Rattle.runs.proofs.Four.Facts.{gone, SeenAs, Sound, Copy, CopyKept, Turned, Door, TurnsOf, Indoor, Self}

-- A go, at any place.
module _ (N : ℕ) (w : ℕ → Own) (p j : ℕ) (heard : Bool) (x : SeenAs (w p)) where
  abbrev now : Own
  now = gone N w p j heard

  copy_go : (k : ℕ) (e : Bool) → Copy k e (w p).rec → Copy k e now.rec
  copy_go k e h = let n = empty_at (w p).rec.copy (num k e) in grind (arith, nat_tests, without_at)

  copy_kept_go : CopyKept (w p).rec → CopyKept now.rec
  copy_kept_go h = grind (arith, nat_tests)

  turned_go : Turned (w p) → Turned now
  turned_go h = grind (arith, nat_tests)

  door_go : Door (w p) → Door now
  door_go h = grind (arith, nat_tests)

  turns_go : (e : Bool) → TurnsOf e (w p) → TurnsOf e now
  turns_go e h = grind (arith, nat_tests)

  indoor_go : Indoor (w p) → Indoor now
  indoor_go h = grind (arith, nat_tests)

  self_go : (e : Bool) → Self p e (w p).rec → TurnsOf e (w p) → Self p e now.rec
  self_go e h t = let m = half p e in let o = side_of p e in grind (arith, nat_tests, without_at, plus_at)

  pub sound_go : (k : ℕ) (e : Bool) → Sound p k e (w p) → Sound p k e now
  sound_go k e h = record {
    copy = copy_go k e h.copy;
    copy_kept = copy_kept_go h.copy_kept;
    turned = turned_go h.turned;
    door = door_go h.door;
    turns = turns_go e h.turns;
    indoor = indoor_go h.indoor;
    self = self_go e h.self h.turns;
  }

-- A stir, which loosens the line that the next go settles, or all four.
module _ (N p : ℕ) (o : Own) (x : SeenAs o) where
  abbrev shaken : Own
  shaken = stirred four_line N p o

  turned_stir : Turned o → Turned shaken
  turned_stir h = grind (arith, nat_tests)

  door_stir : Door o → Door shaken
  door_stir h = grind (arith, nat_tests)

  turns_stir : (e : Bool) → TurnsOf e o → TurnsOf e shaken
  turns_stir e h = grind (arith, nat_tests)

  indoor_stir : Indoor o → Indoor shaken
  indoor_stir h = grind (arith, nat_tests)

  pub sound_stir : (k : ℕ) (e : Bool) → Sound p k e o → Sound p k e shaken
  sound_stir k e h = record {
    copy = h.copy;
    copy_kept = h.copy_kept;
    turned = turned_stir h.turned;
    door = door_stir h.door;
    turns = turns_stir e h.turns;
    indoor = indoor_stir h.indoor;
    self = h.self;
  }

-- The other calls.
module _ {p k : ℕ} {e : Bool} {o : Own} (h : Sound p k e o) where
  pub sound_start : (N : ℕ) → o.rec.place ≡ 21 → Sound p k e (stands (four_line.starts N o.rec) o)
  sound_start N at =
      let c = none_at (num k e) in
      record {
        copy = grind arith;
        copy_kept = grind arith;
        turned = grind arith;
        door = let x = h.door in grind arith;
        turns = let x = h.turns in grind arith;
        indoor = grind arith;
        self = none_at (num p e);
      }

  pub sound_fail : Sound p k e (stands failed o)
  sound_fail =
      let c = none_at (num k e) in
      record {
        copy = grind arith;
        copy_kept = grind arith;
        turned = grind arith;
        door = grind arith;
        turns = grind arith;
        indoor = grind arith;
        self = none_at (num p e);
      }

  pub sound_leave : o.rec.place ≡ 37 → Sound p k e (stands (to_number release_place o.rec) o)
  sound_leave at = record {
    copy = let x = h.copy in grind arith;
    copy_kept = grind arith;
    turned = grind arith;
    door = let x = h.door in grind arith;
    turns = let x = h.turns in grind arith;
    indoor = grind arith;
    self = h.self;
  }

  pub sound_take : Sound p k e (takes o)
  sound_take = record {
    copy = h.copy;
    copy_kept = h.copy_kept;
    turned = h.turned;
    door = h.door;
    turns = h.turns;
    indoor = h.indoor;
    self = h.self;
  }
