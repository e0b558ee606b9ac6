-- What holds of one station holds after every history.
use Rattle.std.proofs.Common.{ℕ, ◌≤◌, Bool, true, false, List, [], ◌∷◌, refl, inl, arith}
use Rattle.steps.specs.FourLine.{four_line}
use Rattle.runs.specs.Runs.{Event, Own, run, new_own}
use Rattle.sets.proofs.SetLaws.{none_at}
use Rattle.runs.proofs.Calls.{kept, one}
use Rattle.runs.proofs.ContestRuns.{Facts, facts}
use Rattle.runs.proofs.FourContest.{Place, seen, four_contest}
use Rattle.runs.proofs.Four.Turns.{num}
use Rattle.runs.proofs.Four.Facts.{SeenAs, Sound, TurnsOf}
use Rattle.runs.proofs.Four.One.{sound_start, sound_go, sound_stir, sound_fail, sound_take, sound_leave}

made_turns : (e : Bool) → TurnsOf e new_own
made_turns true = inl refl
made_turns false = inl refl

-- Before any call.
made_sound : (q k : ℕ) (e : Bool) → Sound q k e new_own
made_sound q k e =
    let n = none_at (num k e) in
    record {
      copy = grind arith;
      copy_kept = grind arith;
      turned = grind arith;
      door = inl refl;
      turns = made_turns e;
      indoor = grind arith;
      self = none_at (num q e);
    }

module _ (N name : ℕ) (few : N ≤ 16) where
  abbrev own : List Event → ℕ → Own
  own es = (run four_line N name es).own

  -- The facts of the contest.
  pub contest : (es : List Event) → Facts Place N (own es)
  contest es = facts four_line 34 Place four_contest N name few es

  pub seen_as : (es : List Event) (q : ℕ) → SeenAs (own es q)
  seen_as es q = seen (own es q).rec.place ((contest es).each q).place

  abbrev Sounds : ℕ → Own → Type 0
  Sounds q o = (k : ℕ) (x : Bool) → Sound q k x o

  pub sound : (es : List Event) (q : ℕ) → Sounds q (own es q)
  sound [] q = made_sound q
  sound (e ∷ es) q =
      one four_line N name (run four_line N name es) Sounds e
      (kept four_line N name (run four_line N name es) Sounds
      (record {
        as_it_is = sound es;
        started = λ p lt at k x. sound_start (sound es p k x) N at;
        gone = λ p j heard lt k x. sound_go N (own es) p j heard (seen_as es p) k x (sound es p k x);
        stirs = λ p lt _ k x. sound_stir N p (own es p) (seen_as es p) k x (sound es p k x);
        fails = λ p lt k x. sound_fail (sound es p k x);
        taken = λ p lt at k x. sound_take (sound es p k x);
        left = λ p lt at k x. sound_leave (sound es p k x) at;
      })
      e)
      (λ p _. sound es p)
      q
