-- The two stations together, by the history.
use Rattle.std.proofs.Common.{◌≡◌, ℕ, zero, suc, ◌/◌, ◌<◌, ◌≤◌, Bool, true, eqb, ltb, ◌⊎◌, sym, refl, subst, inl, inr, arith}
use Rattle.std.proofs.lemmas.Bool.Decides.{nat_tests}
use Rattle.std.proofs.lemmas.Bool.{lt-ltb, cond_both}
use Rattle.boards.specs.Lines.{Line, loose}
use Rattle.sets.specs.declared.Set.{Set}
use Rattle.steps.specs.Rows.{new_record}
use Rattle.sets.specs.Sets.{has}
use Rattle.steps.specs.Table.{Table}
use Rattle.steps.specs.FourLine.{four_line, odd}
use Rattle.runs.specs.Runs as runs
use Rattle.runs.specs.Runs.{Event, start, stir, go, of, Own, State, done, reply, next, new_own, stands, limit, reading}
use Rattle.sets.proofs.SetLaws.{first_at, none_at}
use Rattle.runs.proofs.Calls.{others, named}
use Rattle.runs.proofs.FourContest as contest
use Rattle.worked.proofs.Lone.FourFit.{high, turn, SeenAs}
use Rattle.worked.proofs.Behind.Steps.{InWay, Raised, Behind, raised_go, raised_stir, behind_stir, reads, Reads23, Reads27, behind_go}

-- A fact of the station that goes: of it as it was, and of it as it has gone.
go_kept : (t : Table) (N name : ℕ) (s : State) (P : Own → Type 0) (p k : ℕ) (heard : Bool) → P (s.own p) → P (runs.after (runs.went t N s.own p k heard) (s.own p)) → P ((next t N name s (go p k heard)).own p)
go_kept t N name s P p k heard old new =
    subst P (sym (named t N name s (go p k heard)))
    (cond_both (ltb p N) _ _ (λ r. P (runs.after r (s.own p)))
    (λ _. cond_both (ltb s.used limit) _ _ (λ r. P (runs.after r (s.own p))) (λ _. new) (λ _. old))
    (λ _. old))

stir_kept : (t : Table) (N name : ℕ) (s : State) (P : Own → Type 0) (p : ℕ) → P (s.own p) → P (runs.stirred t N p (s.own p)) → P ((next t N name s (stir p)).own p)
stir_kept t N name s P p old new =
    subst P (sym (named t N name s (stir p)))
    (cond_both (ltb p N) _ _ (λ r. P (runs.after r (s.own p)))
    (λ _. cond_both (ltb s.used limit) _ _ (λ r. P (runs.after r (s.own p)))
    (λ _. cond_both (runs.settles_some (runs.next_go t N p (s.own p).rec)) _ _ (λ r. P (runs.after r (s.own p))) (λ _. new) (λ _. old))
    (λ _. old))
    (λ _. old))

seen : (o : Own) (a b : ℕ) → 21 ≤ a → b ≤ 46 → (a ≤ o.rec.place) × (o.rec.place ≤ b) → SeenAs o
seen o a b x y h = contest.seen o.rec.place (omega arith, omega arith)

-- The two stations.
pub record Two (w : ℕ → Own) : Type 0 where
  pub in_way : InWay (w 0)
  pub raised : Raised (w 0)
  pub behind : Behind (w 1)

pub seen_0 : (w : ℕ → Own) → Two w → SeenAs (w 0)
seen_0 w h = seen (w 0) 25 34 (omega arith) (omega arith) h.in_way

pub seen_1 : (w : ℕ → Own) → Two w → SeenAs (w 1)
seen_1 w h = seen (w 1) 22 27 (omega arith) (omega arith) h.behind.in_door

reads_0 : (v : Line) (heard : Bool) → (v ≡ high) ⊎ (v ≡ loose) → heard ≡ true → reading v heard ≡ true
reads_0 v heard (inl e) so = rw e refl
reads_0 v heard (inr e) so = rw e so

-- What station 1 hears, where a stirred turn of station 0 is answered high.
module _ (w : ℕ → Own) (h : Two w) (k : ℕ) (heard : Bool) where
  either : ((w 0).turn0 ≡ high) ⊎ ((w 0).turn0 ≡ loose)
  either = let r = (h.raised h.in_way).1 in grind arith

  abbrev pub Hears23 : Type 0
  Hears23 = (w 1).rec.place ≡ 23 → has (w 1).rec.left 0 ≡ true → k ≡ 0 → heard ≡ true

  abbrev pub Hears27 : Type 0
  Hears27 = (w 1).rec.place ≡ 27 → (w 1).rec.kept ≡ 0 → heard ≡ true

  reads_23 : Hears23 → Reads23 2 w k heard (seen_1 w h)
  reads_23 so at l =
      let b = h.behind in
      reads w heard k (b.left k (omega arith) l) (λ e. reads_0 (w 0).turn0 heard either (so at (subst (λ z. has (w 1).rec.left z ≡ true) e l) e)) (h.raised h.in_way).2 (λ _. b.unturned (omega arith))

  kept_0 : (w 1).rec.place ≡ 27 → (w 1).rec.kept ≡ 0
  kept_0 at = h.behind.only (w 1).rec.kept (h.behind.kept at)

  pub reads_27 : Hears27 → Reads27 2 w k heard (seen_1 w h)
  reads_27 so at =
      subst (λ z. reading (turn (odd z) (w (z / 2))) heard ≡ true) (sym (kept_0 at))
      (reads w heard 0 (omega arith) (λ _. reads_0 (w 0).turn0 heard either (so at (kept_0 at))) (h.raised h.in_way).2 (λ l. absurd (omega arith)))

-- A go of either, after which 0 is still at 25 to 34.
module _ (name : ℕ) (s : State) (h : Two s.own) where
  pub two_go_0 : (k : ℕ) (heard : Bool) → InWay ((next four_line 2 name s (go 0 k heard)).own 0) → Two (next four_line 2 name s (go 0 k heard)).own
  two_go_0 k heard i = record {
    in_way = i;
    raised = go_kept four_line 2 name s Raised 0 k heard h.raised (raised_go 2 s.own k heard (seen_0 s.own h) h.in_way h.raised);
    behind = subst Behind (sym (others four_line 2 name s (go 0 k heard) 1 (λ e. omega arith))) h.behind;
  }

  pub two_go_1 : (k : ℕ) (heard : Bool) → Hears23 s.own h k heard → Hears27 s.own h k heard → InWay ((next four_line 2 name s (go 1 k heard)).own 0) → Two (next four_line 2 name s (go 1 k heard)).own
  two_go_1 k heard a b i = record {
    in_way = i;
    raised = subst Raised (sym (others four_line 2 name s (go 1 k heard) 0 (λ e. omega arith))) h.raised;
    behind = go_kept four_line 2 name s Behind 1 k heard h.behind (behind_go 2 s.own k heard (seen_1 s.own h) h.behind (reads_23 s.own h k heard a) (reads_27 s.own h k heard b));
  }

  pub two_stir_0 : InWay ((next four_line 2 name s (stir 0)).own 0) → Two (next four_line 2 name s (stir 0)).own
  two_stir_0 i = record {
    in_way = i;
    raised = stir_kept four_line 2 name s Raised 0 h.raised (raised_stir 2 (s.own 0) (seen_0 s.own h) h.in_way h.raised);
    behind = subst Behind (sym (others four_line 2 name s (stir 0) 1 (λ e. omega arith))) h.behind;
  }

  pub two_stir_1 : InWay ((next four_line 2 name s (stir 1)).own 0) → Two (next four_line 2 name s (stir 1)).own
  two_stir_1 i = record {
    in_way = i;
    raised = subst Raised (sym (others four_line 2 name s (stir 1) 0 (λ e. omega arith))) h.raised;
    behind = stir_kept four_line 2 name s Behind 1 h.behind (behind_stir 2 (s.own 1) (seen_1 s.own h) h.behind);
  }

  -- a call of no station
  pub two_other : (e : Event) → 2 ≤ of e → InWay ((next four_line 2 name s e).own 0) → Two (next four_line 2 name s e).own
  two_other e far i = record {
    in_way = i;
    raised = subst Raised (sym (others four_line 2 name s e 0 (λ y. omega arith))) h.raised;
    behind = subst Behind (sym (others four_line 2 name s e 1 (λ y. omega arith))) h.behind;
  }

-- Station 1 starts.
pub starts_1 : (name : ℕ) (s : State) → s.used < limit → s.own 1 ≡ new_own → reply four_line 2 name s (start 1) ≡ done (stands (four_line.starts 2 new_record) new_own)
starts_1 name s under new = rw (lt-ltb s.used limit under, new) refl

pub begins : Behind (stands (four_line.starts 2 new_record) new_own)
begins = record {
  in_door = (omega arith, omega arith);
  unturned = λ _. (refl, refl);
  left = λ k _ h. let a = first_at 4 k in grind (arith, nat_tests);
  sees = λ _. inl (let a = first_at 4 0 in grind (arith, nat_tests));
  copied = grind arith;
  only = λ k h. let a = none_at k in absurd (grind arith);
  kept = grind arith;
}

pub only_0 : (c : Set) (k : ℕ) → has c 0 ≡ true → (has c k ≡ true → k ≡ 0) → has c k ≡ eqb k 0
only_0 c zero h o = h
only_0 c (suc k) h o = grind (arith, nat_tests)
