-- On the hold board a go hears the turn of station 0 as it was last settled, though it be stirred.
use Rattle.std.proofs.Common.{◌≡◌, ℕ, ◌≤◌, Bool, true, false, cond, eqb, ltb, ◌≢◌, Some, None, Option, sym, refl, ap, ◌∙◌, subst, inl, inr, arith, get_or-set_other, get_or-set_same}
use Rattle.std.proofs.lemmas.Bool.{lt-ltb, cond_both, cases_eq}
use Rattle.boards.specs.Hold.{Hold, hold, hold_lawful}
use Rattle.boards.specs.Cells.{cell_at, low_cell}
use Rattle.steps.specs.declared.record.Record.{Record}
use Rattle.steps.specs.declared.lines.Part.{Part}
use Rattle.steps.specs.declared.lines.Part.TheVariants.{Door, Claim, Turn}
use Rattle.steps.specs.declared.lines.Flag.{Flag}
use Rattle.steps.specs.declared.go.Go.{Go}
use Rattle.steps.specs.declared.go.Go.TheVariants.{Idle, Waits, WrongPick, MustLeave, Moves, Settles}
use Rattle.disciplines.specs.declared.four_line.FourLine.{FourLine}
use Rattle.steps.specs.declared.answers.Refusal.TheVariants.{NoStation, Limit}
use Rattle.steps.specs.Rows.{flag, idle_place}
use Rattle.sets.specs.Sets.{has}
use Rattle.steps.specs.FourLine.{four_line, view, odd, turn}
use Rattle.runs.specs.Runs.{limit, settles_some, stirs}
use Rattle.junction.specs.declared.state.Junction.{Junction}
use Rattle.junction.specs.Wires.{on_line, hears, heard, settled_on, loosened_on, loosened_if}
use Rattle.junction.specs.Calls.{place, unless, refused_first, allowed_leaves, with_board, acted, look_of, go_of, next_go, start_leaves, go_leaves, stir_leaves}
use Rattle.runs.proofs.LinesApart.{number_of, four_lines}
use Rattle.junction.proofs.Both.{unless_both}

-- A fact of the number of stations and of the board, after each call of station p.
module _ (Q : ℕ → Hold → Type 0) (j : Junction FourLine Hold) (p : ℕ) (q : Q j.size.stations j.board) where
  abbrev n : ℕ
  n = j.size.stations

  abbrev Of : Junction FourLine Hold → Type 0
  Of i = Q i.size.stations i.board

  allowed : (i : Junction FourLine Hold) → Of i → Of (allowed_leaves four_line hold j p i)
  allowed i h = unless_both Of (refused_first j p) i j h q

  pub by_start : Of (start_leaves four_line hold j p)
  by_start = allowed _ (cond_both (eqb (place j p) idle_place) _ _ Of (λ _. q) (λ _. q))

  -- a read leaves the board as it was
  read_same : (o : Option Flag) → heard four_line hold n j.board o ≡ j.board
  read_same None = refl
  read_same (Some x) = at (four_line.number n x)
    where
      at : (l : Option ℕ) → on_line hold j.board l (λ i. j.board) j.board ≡ j.board
      at None = refl
      at (Some i) = cond_both (ltb i (hold.count j.board)) _ _ (λ b. b ≡ j.board) (λ _. refl) (λ _. refl)

  acts : ((x : Part) (v : Bool) → Q n (settled_on four_line hold n j.board (flag p x) v)) → (b : Hold) → b ≡ j.board → (g : Go) → Of (acted four_line hold (with_board j b) p g)
  acts f b e Idle = subst (Q n) (sym e) q
  acts f b e Waits = subst (Q n) (sym e) q
  acts f b e WrongPick = subst (Q n) (sym e) q
  acts f b e MustLeave = subst (Q n) (sym e) q
  acts f b e (Moves s) = subst (Q n) (sym e) q
  acts f b e (Settles x v s) = subst (λ c. Q n (settled_on four_line hold n c (flag p x) v)) (sym e) (f x v)

  -- a go that the limit of calls refuses changes nothing
  unchanged : (a b : Bool) (i : Junction FourLine Hold) → b ≡ false → unless (cond a (cond b None (Some Limit)) (Some NoStation)) (λ _. j) i ≡ j
  unchanged true b i e = rw e refl
  unchanged false b i e = refl

  pub refused_for : ltb j.counts.used limit ≡ false → (k : ℕ) → Of (go_leaves four_line hold j p k)
  refused_for full k = subst Of (sym (unchanged (ltb p n) (ltb j.counts.used limit) _ full)) q

  pub by_go : ((x : Part) (v : Bool) → Q n (settled_on four_line hold n j.board (flag p x) v)) → (k : ℕ) → Of (go_leaves four_line hold j p k)
  by_go f k = allowed _ (acts f _ (read_same (look_of four_line hold j p k)) (go_of four_line hold j p k))

  loosened : ((b : Hold) (x : Part) → Q n b → Q n (loosened_on four_line hold n b (flag p x))) → (c : Bool) (b : Hold) (x : Part) → Q n b → Q n (loosened_if four_line hold c n b (flag p x))
  loosened f true b x h = f b x h
  loosened f false b x h = h

  pub by_stir : ((b : Hold) (x : Part) → Q n b → Q n (loosened_on four_line hold n b (flag p x))) → Of (stir_leaves four_line hold j p)
  by_stir f =
      let g = next_go four_line hold j p in
      let at = place j p in
      allowed _ (cond_both (settles_some g) _ _ Of
      (λ _. loosened f (stirs at g (Turn true)) _ (Turn true) (loosened f (stirs at g (Turn false)) _ (Turn false) (loosened f (stirs at g Claim) _ Claim (loosened f (stirs at g Door) _ Door q))))
      (λ _. q))

-- Two stations, over a board that has their lines.
abbrev pub Fits : ℕ → Hold → Type 0
Fits n b = (n ≡ 2) × (8 ≤ hold.count b)

-- Where the turn line of station 0 and side 0 is.
abbrev pub turn_line : ℕ
turn_line = number_of 2 0 (Turn false)

-- It was last settled high.
abbrev pub LastHigh : ℕ → Hold → Type 0
LastHigh n b = Fits n b × ((cell_at b.cells turn_line).last ≡ true)

on_both : (P : Hold → Type 0) (b : Hold) (l : Option ℕ) (f : ℕ → Hold) → ((i : ℕ) → l ≡ Some i → P (f i)) → P b → P (on_line hold b l f b)
on_both P b None f h g = g
on_both P b (Some i) f h g = cond_both (ltb i (hold.count b)) _ _ P (λ _. h i refl) (λ _. g)

pub fits_settled : (n : ℕ) (b : Hold) (x : Flag) (v : Bool) → Fits n b → Fits n (settled_on four_line hold n b x v)
fits_settled n b x v h = on_both (Fits n) b (four_line.number n x) _ (λ i _. let c = hold_lawful.settle_count b i v in (h.0, omega arith)) h

fits_loosened : (n : ℕ) (b : Hold) (x : Flag) → Fits n b → Fits n (loosened_on four_line hold n b x)
fits_loosened n b x h = on_both (Fits n) b (four_line.number n x) _ (λ i _. let c = hold_lawful.loosen_count b i in (h.0, omega arith)) h

-- A line of another station is another line.
elsewhere : (n p : ℕ) (x : Part) (i : ℕ) → n ≡ 2 → 1 ≤ p → four_line.number n (flag p x) ≡ Some i → turn_line ≢ i
elsewhere n p x i two some e same =
    let at : four_line.number 2 (flag p x) ≡ Some turn_line = subst (λ z. four_line.number z (flag p x) ≡ Some i) two e ∙ ap Some (sym same) in
    let q : p ≡ 0 = ap (λ (y : Flag). y.station) (four_lines.apart 2 (flag p x) (flag 0 (Turn false)) turn_line at refl) in
    omega arith

pub last_settled : (n p : ℕ) (b : Hold) (x : Part) (v : Bool) → 1 ≤ p → LastHigh n b → LastHigh n (settled_on four_line hold n b (flag p x) v)
last_settled n p b x v some h = (
  fits_settled n b (flag p x) v h.0,
  on_both (λ c. (cell_at c.cells turn_line).last ≡ true) b (four_line.number n (flag p x)) _
      (λ i e. let ne : turn_line ≢ i = elsewhere n p x i h.0.0 some e in ap (λ c. c.last) (get_or-set_other b.cells.cells i turn_line _ low_cell ne) ∙ h.1) h.1,
)

pub last_loosened : (n : ℕ) (b : Hold) (x : Flag) → LastHigh n b → LastHigh n (loosened_on four_line hold n b x)
last_loosened n b x h =
    let room = h.0.1 in (
      fits_loosened n b x h.0,
      on_both (λ c. (cell_at c.cells turn_line).last ≡ true) b (four_line.number n x) _
          (λ i _. elim (cases_eq turn_line i) [
            | inl same ↦ subst (λ z. (cell_at (hold.loosened b z).cells turn_line).last ≡ true) same (ap (λ c. c.last) (get_or-set_same b.cells.cells turn_line _ low_cell (omega arith)) ∙ h.1)
            | inr ne ↦ ap (λ c. c.last) (get_or-set_other b.cells.cells i turn_line _ low_cell ne) ∙ h.1
          ]) h.1,
    )

-- What a go hears of that line.
hears_0 : (n : ℕ) (b : Hold) → LastHigh n b → hears four_line hold n b (Some (turn 0)) ≡ true
unfolding odd
hears_0 n b h = let room = h.0.1 in rw (h.0.0, lt-ltb turn_line (hold.count b) (omega arith)) h.1

looks_23 : (n : ℕ) (r : Record) → r.place ≡ 23 → has r.left 0 ≡ true → four_line.looks n 1 r 0 ≡ Some (turn 0)
unfolding view
looks_23 n r at l = rw (at, l) refl

looks_27 : (n : ℕ) (r : Record) (k : ℕ) → r.place ≡ 27 → r.kept ≡ 0 → four_line.looks n 1 r k ≡ Some (turn 0)
unfolding view
looks_27 n r k at l = rw (at, l) refl

pub hears_23 : (n : ℕ) (b : Hold) (r : Record) → LastHigh n b → r.place ≡ 23 → has r.left 0 ≡ true → hears four_line hold n b (four_line.looks n 1 r 0) ≡ true
hears_23 n b r h at l = ap (hears four_line hold n b) (looks_23 n r at l) ∙ hears_0 n b h

pub hears_27 : (n : ℕ) (b : Hold) (r : Record) (k : ℕ) → LastHigh n b → r.place ≡ 27 → r.kept ≡ 0 → hears four_line hold n b (four_line.looks n 1 r k) ≡ true
hears_27 n b r k h at l = ap (hears four_line hold n b) (looks_27 n r k at l) ∙ hears_0 n b h
