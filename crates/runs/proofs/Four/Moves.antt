-- In the four-line discipline some busy station can always move.
use Rattle.std.proofs.Common.{◌≡◌, ℕ, zero, suc, ◌/◌, ◌<◌, ◌≤◌, Bool, true, false, cond, eqb, ◌≢◌, ◌⊎◌, List, inl, inr, ⊎_elim, arith}
use Rattle.std.proofs.lemmas.Bool.Decides.{nat_tests}
use Rattle.std.proofs.lemmas.Bool.{cases_eq}
use Rattle.steps.specs.declared.record.Record.{Record}
use Rattle.sets.specs.Sets.{has}
use Rattle.steps.specs.FourLine.{four_line, odd}
use Rattle.runs.specs.Runs.{Event, Own, run, limit, went, is_done}
use Rattle.runs.specs.Words.{Busy, CanMove}
use Rattle.runs.specs.Laws.{NeverStuck}
use Rattle.sets.proofs.SetLaws.{member, member_in}
use Rattle.runs.proofs.Ghost.{came}
use Rattle.runs.proofs.ContestFacts.{low, Raised}
use Rattle.runs.proofs.ContestRuns.{inside}
use Rattle.runs.proofs.Climb.{wait_cases, by_claim}
use Rattle.runs.proofs.CanMove.{can_move}
use Rattle.runs.proofs.FourContest.{Place, four_contest}
use Rattle.runs.proofs.Four.Turns.{turn, num, num_of}
use Rattle.runs.proofs.Four.Facts.{SeenAs}
use Rattle.runs.proofs.Four.Sound.{contest, seen_as, sound}
use Rattle.runs.proofs.Four.Pairs.{pair}

-- What a station picks: a turn that it has copied, or one of those left.
abbrev pick : Record → ℕ
pick s = cond (eqb s.place 26) (member s.copy) (member s.left)

-- The turn that a station has kept is low.
abbrev KeptLow : (ℕ → Own) → Own → Type 0
KeptLow w o = turn (odd o.rec.kept) (w (o.rec.kept / 2)) ≡ low

-- Where a station waits for a turn, a claim, a door, that line is low.

abbrev TurnLow : (ℕ → Own) → Own → Type 0
TurnLow w o = (o.rec.place ≡ 27) ⊎ (o.rec.place ≡ 46) → KeptLow w o

abbrev ClaimLow : (ℕ → Own) → Own → Type 0
ClaimLow w o = (o.rec.place ≡ 31) ⊎ (o.rec.place ≡ 33) → (w o.rec.kept).claim ≡ low

abbrev DoorLow : (ℕ → Own) → Own → Type 0
DoorLow w o = (o.rec.place ≡ 36) ⊎ (o.rec.place ≡ 44) → (w o.rec.kept).door ≡ low

-- A busy station off the merge for which all these are low moves by a go.
go_moves : (N : ℕ) (w : ℕ → Own) (p : ℕ) (heard : Bool) → SeenAs (w p) → (w p).rec.place ≢ 21 → (w p).rec.place ≢ 37
    → TurnLow w (w p) → ClaimLow w (w p) → DoorLow w (w p) → is_done (went four_line N w p (pick (w p).rec) heard) ≡ true
go_moves N w p heard x b n t c d =
    let l = member_in (w p).rec.left in
    let m = member_in (w p).rec.copy in
    grind (arith, nat_tests)

-- A station that has copied a turn of k, and none of its own, is not k.
other : (p k : ℕ) (f : Bool) (s : Record) → has s.copy (num k f) ≡ true → has s.copy (num p f) ≡ false → p ≢ k
other p k f s c z same = grind arith

module _ (N name : ℕ) (few : N ≤ 16) (es : List Event) (under : (run four_line N name es).used < limit) where
  abbrev own : ℕ → Own
  own = (run four_line N name es).own

  abbrev BusyNow : ℕ → Type 0
  BusyNow = Busy four_line N name es

  abbrev Someone : Type 0
  Someone = (p : ℕ) × (p < N) × BusyNow p × CanMove four_line N name es p

  -- Who is busy is a station.
  within : (p : ℕ) → BusyNow p → p < N
  within p b = inside four_line 34 Place four_contest N name few es p b

  -- Who waits for nothing can move.
  ready : (p : ℕ) → BusyNow p → TurnLow own (own p) → ClaimLow own (own p) → DoorLow own (own p) → Someone
  ready p b t c d =
      let lt = within p b in
      (p, lt, b, can_move four_line N name es p lt under (pick (own p).rec) (λ off heard. go_moves N own p heard (seen_as N name few es p) b off t c d))

  -- One that waits for no turn and no claim: whose door it waits for is in the doorway or has failed, and moves.
  by_door : (p : ℕ) → BusyNow p → TurnLow own (own p) → ClaimLow own (own p) → Someone
  by_door p b t c =
      elim (wait_cases (own p).rec.place 36 44 (own (own p).rec.kept).door) [
        | inl d ↦ ready p b t c d
        | inr w ↦
            let k : ℕ = (own p).rec.kept in
            let h = (sound N name few es k 0 false).door in
            let opened : ((22 ≤ (own k).rec.place) × ((own k).rec.place ≤ 25)) ⊎ ((own k).rec.place ≡ 39) = grind arith in
            ready k (grind arith) (grind arith) (grind arith) (grind arith)
      ]

  -- One that waits for no turn: the claims lead to one that waits for no claim either.

  abbrev Fit : ℕ → Type 0
  Fit p = BusyNow p × TurnLow own (own p)

  raised_fit : (p : ℕ) → Raised (own p).rec.place → Fit p
  raised_fit p r = (grind arith, grind arith)

  by_claims : (p : ℕ) → Fit p → Someone
  by_claims =
      by_claim N own (λ p k. ((contest N name few es).each p).sound k) Fit Someone (λ p f. within p f.0) raised_fit (λ p f c. by_door p f.0 f.1 c)

  -- Whose turn is not low is busy, not at 46, and at 27 it is the turn of its side.
  held : (k : ℕ) (f : Bool) → (turn f (own k) ≡ low → ⊥) → BusyNow k × ((own k).rec.place ≢ 46) × ((own k).rec.place ≡ 27 → (own k).rec.side ≡ f)
  held k f h = let t = (sound N name few es k 0 f).turns in (grind arith, grind arith, grind arith)

  -- At 27 a station waits for one that came to 24 before it, so n steps back there is none left to wait for.
  by_turn : (n p : ℕ) → came four_line N name es p < n → BusyNow p → ((own p).rec.place ≡ 46 → KeptLow own (own p)) → Someone
  by_turn zero p far b t = absurd (omega arith)
  by_turn (suc n) p far b t =
      elim (wait_cases (own p).rec.place 27 27 (turn (odd (own p).rec.kept) (own ((own p).rec.kept / 2)))) [
        | inl d ↦ by_claims p (b, λ x. ⊎_elim (λ y. d (inl y)) t x)
        | inr w ↦
            let k : ℕ = (own p).rec.kept / 2 in
            let f : Bool = odd (own p).rec.kept in
            let h = held k f w.1 in
            elim (cases_eq (own k).rec.place 27) [
              | inl x ↦
                  let y : (own p).rec.place ≡ 27 = grind arith in
                  let side = h.2 x in
                  let c : has (own p).rec.copy (num k f) ≡ true = rw (num_of (own p).rec.kept) ((sound N name few es p k f).copy_kept y) in
                  let ne = other p k f (own p).rec c (sound N name few es p 0 f).self in
                  let before = (pair N name few es p k (within p b) (within k h.0) ne f).later (omega arith) (rw side c) (omega arith) in
                  by_turn n k (omega arith) h.0 (λ z. absurd (h.1 z))
              | inr nx ↦ by_claims k (h.0, grind arith)
            ]
      ]

  -- Who waits for a turn at 46 leads to one that does not.
  someone : (q : ℕ) → BusyNow q → Someone
  someone q b =
      elim (wait_cases (own q).rec.place 46 46 (turn (odd (own q).rec.kept) (own ((own q).rec.kept / 2)))) [
        | inl d ↦ by_turn (suc (came four_line N name es q)) q (omega arith) b (λ x. d (inl x))
        | inr w ↦
            let k : ℕ = (own q).rec.kept / 2 in
            let h = held k (odd (own q).rec.kept) w.1 in
            by_turn (suc (came four_line N name es k)) k (omega arith) h.0 (λ z. absurd (h.1 z))
      ]

pub four_moves : NeverStuck four_line
four_moves N name es q few under b = someone N name few es under q b
