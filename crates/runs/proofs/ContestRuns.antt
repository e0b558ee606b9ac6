-- Any table that has the contest's rows keeps the contest's facts in every history, and so grants the merge to one station at a time.
use Rattle.std.proofs.Common.{◌≡◌, ℕ, ◌<◌, ◌≤◌, Bool, true, ◌≢◌, ◌⊎◌, List, [], ◌∷◌, sym, refl, subst, inl, inr, arith}
use Rattle.std.proofs.lemmas.Bool.Decides.{nat_tests}
use Rattle.std.proofs.lemmas.Bool.{cases_order}
use Rattle.steps.specs.declared.record.Record.{Record}
use Rattle.steps.specs.declared.lines.Part.TheVariants as part
use Rattle.steps.specs.declared.contest.Contest.{Contest}
use Rattle.steps.specs.Contest.{label}
use Rattle.steps.specs.Table.{Table}
use Rattle.runs.specs.Runs.{Event, Own, State, Reply, run, reply, after, went, next, next_go, of, stirs}
use Rattle.runs.specs.Words.{Holds}
use Rattle.runs.proofs.Calls.{kept, one, two}
use Rattle.runs.proofs.ContestFacts.{Claiming, Rests, Apart, Sound, Wins, Aside, Loosens, contested, sound_go, apart_first, apart_second, sound_aside, apart_first_aside, apart_second_aside, sound_started, sound_failed, sound_left, sound_taken, sound_stirred}

-- A go that is answered r is one of the contest's, or outside it.
abbrev pub Row : ℕ → ℕ → (ℕ → Own) → ℕ → ℕ → Bool → Reply → Type 0
Row won N w p k a r = ((x : Contest) × (label x ≡ (w p).rec.place) × (r ≡ contested x won N w p k a)) ⊎ Aside (w p) (after r (w p))

-- A table that has the contest's rows, with the places that its stations stand at; who wins goes to `won`.
pub record HasContest (t : Table) (won : ℕ) (Place : ℕ → Type 0) : Type 0 where
  pub wins : Wins won
  pub idle : Place 21
  pub released : Place 38
  pub failing : Place 39
  pub starts_at : (N : ℕ) (s : Record) → Place (t.starts N s).place
  pub starts_low : (N : ℕ) (s : Record) → (22 ≤ (t.starts N s).place) × ((t.starts N s).place ≤ 28)
  pub goes_to : (N : ℕ) (w : ℕ → Own) (p k : ℕ) (a : Bool) → Place (w p).rec.place → Place (after (went t N w p k a) (w p)).rec.place
  pub rows : (N : ℕ) (w : ℕ → Own) (p k : ℕ) (a : Bool) → Place (w p).rec.place → Rests (w p) → Row won N w p k a (went t N w p k a)
  pub loosens : (N p : ℕ) (o : Own) → Place o.rec.place → stirs o.rec.place (next_go t N p o.rec) part.Claim ≡ true → Loosens o.rec.place

-- What holds of each station q of N.
pub record Each (Place : ℕ → Type 0) (N q : ℕ) (o : Own) : Type 0 where
  pub place : Place o.rec.place
  -- a number that is no station's stays at 21
  pub outside : N ≤ q → o.rec.place ≡ 21
  pub sound : (k : ℕ) → Sound q k o

-- The facts of the contest, of each station and of each two.
pub record Facts (Place : ℕ → Type 0) (N : ℕ) (w : ℕ → Own) : Type 0 where
  pub each : (q : ℕ) → Each Place N q (w q)
  pub apart : (q r : ℕ) → q ≢ r → q < N → r < N → Apart q r (w q) (w r)

module _ (t : Table) (won : ℕ) (Place : ℕ → Type 0) (has : HasContest t won Place) (N name : ℕ) (few : N ≤ 16) where
  module _ (s : State) (h : Facts Place N s.own) where
    each_gone : (p k : ℕ) (a : Bool) (j : ℕ) → Sound p j (after (went t N s.own p k a) (s.own p))
    each_gone p k a j =
        let y : Sound p j (s.own p) = (h.each p).sound j in
        elim (has.rows N s.own p k a (h.each p).place y.rests) [
          | inl (x, at, same) ↦ subst (λ r. Sound p j (after r (s.own p))) (sym same) (sound_go x won N s.own p k a at has.wins j y)
          | inr x ↦ sound_aside p j (s.own p) (after (went t N s.own p k a) (s.own p)) x y
        ]

    each_named : (e : Event) → Each Place N (of e) (after (reply t N name s e) (s.own (of e)))
    each_named =
        kept t N name s (Each Place N)
        (record {
          as_it_is = h.each;
          started = λ p lt e. record {
            place = has.starts_at N (s.own p).rec;
            outside = λ out. absurd (omega arith);
            sound = λ k. sound_started p k _ (s.own p) e (has.starts_low N (s.own p).rec) ((h.each p).sound k);
          };
          gone = λ p k a lt. record { place = has.goes_to N s.own p k a (h.each p).place; outside = λ out. absurd (omega arith); sound = each_gone p k a };
          stirs = λ p lt _. record {
            place = (h.each p).place;
            outside = λ out. absurd (omega arith);
            sound = λ k. sound_stirred t N p k (s.own p) (has.loosens N p (s.own p) (h.each p).place) ((h.each p).sound k);
          };
          fails = λ p lt. record { place = has.failing; outside = λ out. absurd (omega arith); sound = λ k. sound_failed p k (s.own p) };
          taken = λ p lt _. record { place = (h.each p).place; outside = λ out. absurd (omega arith); sound = λ k. sound_taken p k (s.own p) ((h.each p).sound k) };
          left = λ p lt _. record { place = has.released; outside = λ out. absurd (omega arith); sound = λ k. sound_left p k (s.own p) };
        })

    started_out : (p : ℕ) → Claiming (t.starts N (s.own p).rec).place → ⊥
    started_out p c = let l = has.starts_low N (s.own p).rec in grind arith

    first_gone : (p k : ℕ) (a : Bool) (r : ℕ) → r < N → Apart p r (s.own p) (s.own r) → Apart p r (after (went t N s.own p k a) (s.own p)) (s.own r)
    first_gone p k a r lt y =
        elim (has.rows N s.own p k a (h.each p).place ((h.each p).sound 0).rests) [
          | inl (x, at, same) ↦
              subst (λ z. Apart p r (after z (s.own p)) (s.own r)) (sym same)
              (apart_first x won N s.own p k a at has.wins r lt few ((h.each r).sound 0).claims y)
          | inr x ↦ apart_first_aside p r (s.own p) (after (went t N s.own p k a) (s.own p)) (s.own r) x y
        ]

    second_gone : (p k : ℕ) (a : Bool) (q : ℕ) → p < N → Apart q p (s.own q) (s.own p) → Apart q p (s.own q) (after (went t N s.own p k a) (s.own p))
    second_gone p k a q lt y =
        elim (has.rows N s.own p k a (h.each p).place ((h.each p).sound 0).rests) [
          | inl (x, at, same) ↦
              subst (λ z. Apart q p (s.own q) (after z (s.own p))) (sym same)
              (apart_second x won N s.own p k a at has.wins q lt few ((h.each q).sound 0).claims y)
          | inr x ↦ apart_second_aside q p (s.own q) (s.own p) (after (went t N s.own p k a) (s.own p)) x y
        ]

    abbrev First : ℕ → ℕ → Own → Type 0
    First r p o = r ≢ p → p < N → r < N → Apart p r o (s.own r)

    first_named : (r : ℕ) (e : Event) → First r (of e) (after (reply t N name s e) (s.own (of e)))
    first_named r =
        kept t N name s (First r)
        (record {
          as_it_is = λ p n lp lr. h.apart p r (λ x. n (sym x)) lp lr;
          started = λ p lt _ n lp lr below x y. absurd (started_out p x);
          gone = λ p k a lt n lp lr. first_gone p k a r lr (h.apart p r (λ x. n (sym x)) lp lr);
          stirs = λ p lt _ n lp lr. h.apart p r (λ x. n (sym x)) lp lr;
          fails = λ p lt n lp lr below x y. absurd (grind arith);
          taken = λ p lt _ n lp lr. h.apart p r (λ x. n (sym x)) lp lr;
          left = λ p lt _ n lp lr below x y. absurd (grind arith);
        })

    abbrev Second : ℕ → ℕ → Own → Type 0
    Second q p o = q ≢ p → q < N → p < N → Apart q p (s.own q) o

    second_named : (q : ℕ) (e : Event) → Second q (of e) (after (reply t N name s e) (s.own (of e)))
    second_named q =
        kept t N name s (Second q)
        (record {
          as_it_is = λ p n lq lp. h.apart q p n lq lp;
          started = λ p lt _ n lq lp below x y. absurd (started_out p y);
          gone = λ p k a lt n lq lp. second_gone p k a q lt (h.apart q p n lq lp);
          stirs = λ p lt _ n lq lp. h.apart q p n lq lp;
          fails = λ p lt n lq lp below x y. absurd (grind arith);
          taken = λ p lt _ n lq lp. h.apart q p n lq lp;
          left = λ p lt _ n lq lp below x y. absurd (grind arith);
        })

    -- A call keeps the facts.
    facts_next : (e : Event) → Facts Place N (next t N name s e).own
    facts_next e = record {
      each = one t N name s (Each Place N) e (each_named e) (λ q _. h.each q);
      apart = λ q r ne.
          two t N name s (λ q r a b. q ≢ r → q < N → r < N → Apart q r a b) e
          (λ r n _. first_named r e n)
          (λ q n _. second_named q e n)
          (λ q r _ _. h.apart q r)
          q r ne ne;
    }

  -- The facts hold after every history.
  pub facts : (es : List Event) → Facts Place N (run t N name es).own
  facts [] = record {
    each = λ q. record { place = has.idle; outside = λ _. refl; sound = λ k. record { claims = grind arith; rests = inl refl; above = grind arith; keeps = grind arith } };
    apart = λ q r ne lq lr below x y. absurd (grind arith);
  }
  facts (e ∷ es) = facts_next (run t N name es) (facts es) e

  -- Who is not at 21 is a station.
  pub inside : (es : List Event) (p : ℕ) → ((run t N name es).own p).rec.place ≢ 21 → p < N
  inside es p busy = let x = ((facts es).each p).outside in grind arith

  -- Two that hold the merge claim it, and neither has anyone left to look at.
  never_two : 34 ≤ t.grant → (es : List Event) (p q : ℕ) → p < q → Holds t N name es p → Holds t N name es q → ⊥
  never_two late es p q lt x y =
      let a : Wins ((run t N name es).own p).rec.place = (grind (arith, nat_tests), grind (arith, nat_tests)) in
      let b : Wins ((run t N name es).own q).rec.place = (grind (arith, nat_tests), grind (arith, nat_tests)) in
      let lq : q < N = inside es q (λ e. omega arith) in
      let z = (facts es).apart p q (λ e. omega arith) (omega arith) lq lt (inr (omega arith, omega arith)) (inr (omega arith, omega arith)) in
      grind arith

  -- At most one station holds the merge.
  pub one_holds : 34 ≤ t.grant → (es : List Event) (p q : ℕ) → Holds t N name es p → Holds t N name es q → p ≡ q
  one_holds late es p q x y =
      elim (cases_order p q) [
        | inl same ↦ same
        | inr d ↦ elim d [ inl lt ↦ absurd (never_two late es p q lt x y) | inr gt ↦ absurd (never_two late es q p gt y x) ]
      ]
