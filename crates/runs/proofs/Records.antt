-- A fact of each station's record, kept by the calls that change a record, holds after every history of any table.
use Rattle.std.proofs.Common.{ℕ, ◌<◌, Bool, List, [], ◌∷◌}
use Rattle.steps.specs.declared.record.Record.{Record}
use Rattle.steps.specs.Rows.{release_place, new_record, failed, to_number}
use Rattle.steps.specs.Table.{Table}
use Rattle.runs.specs.Runs.{Event, Own, run, after, went}
use Rattle.runs.proofs.Calls.{kept, one}

module _ (t : Table) (N name : ℕ) where
  abbrev own : List Event → ℕ → Own
  own es = (run t N name es).own

  -- Stirs, takes and voids leave the record as it is.
  pub record Lasts (P : ℕ → Record → Type 0) : Type 0 where
    pub new : (p : ℕ) → P p new_record
    pub starts : (p : ℕ) (s : Record) → P p s → P p (t.starts N s)
    pub goes : (es : List Event) (p k : ℕ) (a : Bool) → p < N → P p (own es p).rec → P p (after (went t N (own es) p k a) (own es p)).rec
    pub fails : (p : ℕ) → P p failed
    pub leaves : (p : ℕ) (s : Record) → P p s → P p (to_number release_place s)

  pub lasting : (P : ℕ → Record → Type 0) → Lasts P → (es : List Event) (q : ℕ) → P q (own es q).rec
  lasting P h [] q = h.new q
  lasting P h (e ∷ es) q =
      let before : (p : ℕ) → P p (own es p).rec = lasting P h es in
      one t N name (run t N name es) (λ p o. P p o.rec) e
      (kept t N name (run t N name es) (λ p o. P p o.rec)
      (record {
        as_it_is = before;
        started = λ p lt at. h.starts p (own es p).rec (before p);
        gone = λ p k a lt. h.goes es p k a lt (before p);
        stirs = λ p lt _. before p;
        fails = λ p lt. h.fails p;
        taken = λ p lt at. before p;
        left = λ p lt at. h.leaves p (own es p).rec (before p);
      })
      e)
      (λ p _. before p)
      q
