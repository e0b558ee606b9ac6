-- What was played of the events, with what the rest of them will do, comes to what all of them do.
use Rattle.std.proofs.Common.{◌≡◌, ℕ, suc, ◌+◌, ◌*◌, ◌≤◌, List, [], ◌∷◌, ◌++◌, length, take, drop, get_or, Some, refl, sym, ap, ◌∙◌, arith}
use lib.Seq.{paste}
use Rattle.std.proofs.lemmas.List.{take-append-drop, drop-drop, get_or-drop}
use Rattle.std.proofs.lemmas.Option.{slice_get_read}
use Rattle.std.specs.List.{slice_get}
use Rattle.std.specs.Option.{option_to_list}
use Rattle.boards.specs.Lines.{Meaning}
use Rattle.steps.specs.Table.{Table}
use Rattle.junction.specs.declared.state.Junction.{Junction}
use Rattle.schedule.specs.declared.event.Event.{Event}
use Rattle.trails.specs.Held.{all_put}
use Rattle.trails.specs.Meaning.{held}
use Rattle.play.specs.declared.account.Account.{Account}
use Rattle.play.specs.declared.event.Written.{Written}
use Rattle.play.specs.Account.{Same}
use Rattle.play.specs.OneEvent.{after_event, written_of}
use Rattle.play.specs.Report.{end_of, lines_of, grants_of, refusals_of}
use Rattle.play.proofs.Noted.{all_put-append}
use Rattle.play.proofs.TextIs.{line_on}

both : {a b c : Account} → Same a b → Same b c → Same a c
both f h = record {
  out = h.out ∙ f.out;
  grants = h.grants ∙ f.grants;
  grant_slots = h.grant_slots ∙ f.grant_slots;
  refusals = h.refusals ∙ f.refusals;
  refusal_slots = h.refusal_slots ∙ f.refusal_slots;
}

module _ {D B : Type 0} (t : Table) (m : Meaning B) (es : List Event) (j₀ : Junction D B) (a₀ : Account) where
  -- The junction j and the account a, before the events `rest`, of which the first has index i.
  pub record Leads (rest : List Event) (i : ℕ) (j : Junction D B) (a : Account) : Type 0 where
    pub count : i + length rest ≡ length es
    pub there : rest ≡ drop i es
    pub junction : end_of t m j rest ≡ end_of t m j₀ es
    pub text : take (12 * i) a.out.now ++ (lines_of t m j rest i ++ drop (12 * length es) a.out.now) ≡ lines_of t m j₀ es 0 ++ drop (12 * length es) a₀.out.now
    pub grants : all_put (held a.grants.now) (grants_of t m j rest i) ≡ all_put (held a₀.grants.now) (grants_of t m j₀ es 0)
    pub refusals : all_put (held a.refusals.now) (refusals_of t m j rest i) ≡ all_put (held a₀.refusals.now) (refusals_of t m j₀ es 0)
    pub same : Same a₀ a

  pub begins : Leads es 0 j₀ a₀
  begins = record {
    count = omega arith;
    there = refl;
    junction = refl;
    text = refl;
    grants = refl;
    refusals = refl;
    same = record { out = refl; grants = refl; grant_slots = refl; refusals = refl; refusal_slots = refl };
  }

module _ {D B : Type 0} {t : Table} {m : Meaning B} {es : List Event} {j₀ : Junction D B} {a₀ : Account} where
  -- one event, written down
  pub goes_on : {e : Event} {rest : List Event} {i : ℕ} {j k : Junction D B} {a b : Account} {x : Written} → Leads t m es j₀ a₀ (e ∷ rest) i j a →
      x ≡ written_of t m j e i → k ≡ after_event t m j e →
      b.out.now ≡ paste a.out.now (12 * i) x.line 12 → held b.grants.now ≡ all_put (held a.grants.now) (option_to_list x.grant) →
      held b.refusals.now ≡ all_put (held a.refusals.now) (option_to_list x.refusal) → Same a b → 12 * length es ≤ length a.out.now → Leads t m es j₀ a₀ rest (i + 1) k b
  goes_on {e} {rest} {i} {j} {k} {a} {b} {x} l hx hk ho hg hd hs r =
      let w = written_of t m j e i in
      let next = after_event t m j e in
      let c : i + suc (length rest) ≡ length es = l.count in
      record {
        count = omega arith;
        there = ap (λ xs. drop 1 xs) l.there ∙ drop-drop 1 i es;
        junction = rw hk l.junction;
        text = rw (ho, hx, hk) (line_on a.out.now w.line (lines_of t m next rest (i + 1)) i (length es) (omega arith) r refl) ∙ l.text;
        grants = rw (hg, hk, hx) (all_put-append (held a.grants.now) (option_to_list w.grant) (grants_of t m next rest (i + 1))) ∙ l.grants;
        refusals = rw (hd, hk, hx) (all_put-append (held a.refusals.now) (option_to_list w.refusal) (refusals_of t m next rest (i + 1))) ∙ l.refusals;
        same = both l.same hs;
      }

  -- the event that is played next is the one of that index
  pub next_is : {e : Event} {rest : List Event} {i : ℕ} {j : Junction D B} {a : Account} → Leads t m es j₀ a₀ (e ∷ rest) i j a → slice_get es i ≡ Some e
  next_is {e} {rest} {i} l =
      let c : i + suc (length rest) ≡ length es = l.count in
      let g : e ≡ get_or (drop i es) 0 e = ap (λ xs. get_or xs 0 e) l.there in
      slice_get_read es (length es) i e refl (omega arith) (g ∙ get_or-drop i es 0 e ∙ ap (λ n. get_or es n e) (omega arith))

  -- nothing is left
  pub text_at_end : {i : ℕ} {j : Junction D B} {a : Account} → Leads t m es j₀ a₀ [] i j a → a.out.now ≡ lines_of t m j₀ es 0 ++ drop (12 * length es) a₀.out.now
  text_at_end {i} {j} {a} l =
      let c : i ≡ length es = omega (arith, l.count) in
      sym (take-append-drop (12 * length es) a.out.now) ∙ (ap (λ n. take (12 * n) a.out.now ++ drop (12 * length es) a.out.now) (sym c) ∙ l.text)
