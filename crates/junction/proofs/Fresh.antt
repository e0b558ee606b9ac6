-- A junction as made agrees with the empty history.
use Rattle.std.proofs.Common.{◌≡◌, ℕ, zero, suc, ◌*◌, ◌<◌, ◌≤◌, min, false, length, get_or, replicate, Ok, Err, Result, sym, refl, ap, ◌∙◌, arith}
use native.Mathlib.Bridge.{le_prop}
use mathlib.Core.HLevel.{is_prop→PathP}
use lib.ListN.{get_or-replicate}
use Rattle.std.proofs.lemmas.Bool.Decides.{nat_tests}
use Rattle.boards.specs.Lines.{settled, Meaning, Lawful}
use Rattle.steps.specs.declared.size.Size.{Size}
use Rattle.steps.specs.declared.lines.Part.{Part}
use Rattle.steps.specs.Rows.{flag}
use Rattle.sets.proofs.SetLaws.{has_none}
use Rattle.steps.specs.Table.{Table}
use Rattle.runs.specs.Laws.{LinesApart}
use Rattle.runs.specs.Runs.{State, made, new_own, line, most_stations}
use Rattle.junction.specs.declared.making.Unfit.{Unfit}
use Rattle.junction.specs.declared.counts.Counts.{Counts}
use Rattle.junction.specs.declared.state.Junction.{Junction}
use Rattle.junction.specs.Stations.{blank, new_station}
use Rattle.junction.specs.Counts.{new_counts}
use Rattle.junction.specs.Wires.{lowered}
use Rattle.junction.specs.Making.{room_for, stations_made, board_made, sized, new_junction}
use Rattle.junction.proofs.Agree.{Sofar}
use Rattle.junction.proofs.Tally.{Told}

module _ {B : Type 0} (m : Meaning B) (law : Lawful m) where
  lowered_count : (b : B) (k : ℕ) → m.count (lowered m b k) ≡ m.count b
  lowered_count b zero = refl
  lowered_count b (suc k) = let one = law.settle_count (lowered m b k) k false in let rest = lowered_count b k in grind arith

  lowered_low : (b : B) (k : ℕ) → k ≤ m.count b → (l : ℕ) → l < k → m.line (lowered m b k) l ≡ settled false
  lowered_low b zero fit l lt = absurd (omega arith)
  lowered_low b (suc k) fit l lt =
      let count = lowered_count b k in
      let rest = lowered_low b k (omega arith) l in
      let same = law.settle_same (lowered m b k) k false in
      let other = law.settle_other (lowered m b k) k l false in
      grind (arith, nat_tests)

min_is : (n : ℕ) → n ≤ most_stations → min n most_stations ≡ n
min_is n h = omega arith

-- where there is room for lines, they are those of the stations, and the board has them
room_is : {B : Type 0} (t : Table) (m : Meaning B) (n : ℕ) (b : B) (l : ℕ) → room_for t m n b ≡ Ok l → (l ≡ n * t.per) × (l ≤ m.count b) × (n ≤ most_stations)
room_is t m n b l e = (grind (arith, nat_tests), grind (arith, nat_tests), grind (arith, nat_tests))

made_line : (x : Part) → settled false ≡ line x new_own
made_line x = grind arith

module _ {D B : Type 0} (t : Table) (m : Meaning B) (law : Lawful m) (apart : LinesApart t) where
  abbrev pub Agreed : ℕ → Junction D B → State → Type 0
  Agreed n j s = Sofar t m law apart n j s.own s.used

  -- new stations, nothing counted, and all lines of the stations low
  fresh : (j : Junction D B) → j.stations.at ≡ replicate 16 new_station → j.counts ≡ new_counts → j.size.stations * t.per ≤ m.count j.board → ((l : ℕ) → l < j.size.stations * t.per → m.line j.board l ≡ settled false) → Agreed j.size.stations j made
  fresh j new counts room low =
      let few : j.size.stations ≤ most_stations = j.size.few in
      record {
        size = refl;
        few = few;
        room = room;
        full = ap length new;
        stations = λ p lt. ap (λ xs. get_or xs p blank) new ∙ get_or-replicate 16 p new_station blank (omega arith);
        lines = λ p x l at. low l (apart.below j.size.stations (flag p x) l at) ∙ made_line x;
        outside = λ q x far. sym (made_line x);
        used = ap (λ (c : Counts). c.used) counts;
        within = omega arith;
        arrivals = λ p. omega arith;
      }

  pub from_made : (d : D) (n name : ℕ) (b : B) → Agreed (new_junction t m d n name b).size.stations (new_junction t m d n name b) made
  from_made d n name b = at (room_for t m n b) refl
    where
      at : (o : Result ℕ Unfit) → room_for t m n b ≡ o → Agreed (new_junction t m d n name b).size.stations (new_junction t m d n name b) made
      at (Ok l) e =
          let j : Junction D B = new_junction t m d n name b in
          let is = room_is t m n b l e in
          let size : j.size.stations ≡ n = ap (λ x. min (stations_made n x) most_stations) e ∙ min_is n is.2 in
          let lines : j.size.stations * t.per ≡ n * t.per = ap (λ x. x * t.per) size in
          let board : j.board ≡ lowered m b l = ap (board_made m b) e in
          fresh j refl refl (omega (arith, ap m.count board, lowered_count m law b l, is.0, is.1))
          (λ k lt. ap (λ x. m.line x k) board ∙ lowered_low m law b l is.1 k (omega (arith, is.0)))
      at (Err x) e =
          let j : Junction D B = new_junction t m d n name b in
          let size : j.size.stations ≡ 0 = ap (λ x. min (stations_made n x) most_stations) e in
          let lines : j.size.stations * t.per ≡ 0 * t.per = ap (λ x. x * t.per) size in
          fresh j refl refl (omega arith) (λ l lt. absurd (omega arith))

pub told_made : (n : ℕ) → Told n new_counts made
told_made n = record { grants = refl; ends = refl; rounds = refl; seen = λ q lt i. has_none i q }

-- sizes of as many stations are equal: that there are few is a fact, and no more than a fact
same_size : (a b : Size) → a.stations ≡ b.stations → a ≡ b
same_size a b e = λ i. record { stations = e i; few = is_prop→PathP (λ i. e i ≤ 16) (λ i. le_prop) a.few b.few i }

-- a junction made, and one refused
module _ {D B : Type 0} (t : Table) (m : Meaning B) (d : D) (n name : ℕ) (b : B) (j : Junction D B) where
  pub made_as : (o : Result ℕ Unfit) → o ≡ room_for t m n b → j.discipline ≡ d → j.size.stations ≡ stations_made n o → j.name ≡ name → j.stations.at ≡ replicate 16 new_station → j.counts ≡ new_counts → j.board ≡ board_made m b o → j ≡ new_junction t m d n name b
  made_as o e same size named new counts board =
      let few : j.size.stations ≤ most_stations = j.size.few in
      let stations : j.size.stations ≡ min (stations_made n (room_for t m n b)) most_stations = sym (min_is j.size.stations few) ∙ ap (λ x. min x most_stations) (size ∙ ap (stations_made n) e) in
      let sizes = same_size j.size (sized (stations_made n (room_for t m n b))) stations in
      λ i. record {
        discipline = same i;
        size = sizes i;
        name = named i;
        stations = record { at = new i };
        counts = counts i;
        board = (board ∙ ap (board_made m b) e) i;
      }
