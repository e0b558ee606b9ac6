-- The lines stand one after another, the end line behind them, and what was behind these stays.
use Rattle.std.proofs.Common.{◌≡◌, ℕ, ◌+◌, ◌*◌, ◌≤◌, List, [], ◌∷◌, ◌++◌, length, take, drop, sym, refl, ap, ap₂, ◌∙◌, append_assoc, ◌-◌, arith, length-append}
use lib.Seq.{paste}
use Rattle.std.proofs.lemmas.List.{take_at, take_all, drop_at, drop-drop}
use Rattle.std.proofs.lemmas.List.Edits.{take-paste, drop-paste}
use Rattle.boards.specs.Lines.{Meaning}
use Rattle.steps.specs.Table.{Table}
use Rattle.junction.specs.declared.counts.Totals.{Totals}
use Rattle.junction.specs.declared.state.Junction.{Junction}
use Rattle.schedule.specs.declared.event.Event.{Event}
use Rattle.report.specs.Lines.{end_line}
use Rattle.play.specs.OneEvent.{after_event}
use Rattle.play.specs.Report.{totals_line, end_of, lines_of, text_of}

-- bytes behind a, over the first of b
pub pasted : (a b line : List ℕ) (n at : ℕ) → length a ≡ at → length line ≡ n → paste (a ++ b) at line n ≡ (a ++ line) ++ drop n b
pasted a b line n at ha hl =
    let u : take at (a ++ b) ≡ a = take_at a b at ha in
    let v : take n line ≡ line = take_all n line (omega arith) in
    let w : drop (at + n) (a ++ b) ≡ drop n b = sym (drop-drop n at (a ++ b)) ∙ ap (drop n) (drop_at a b at ha) in
    rw (u, v, w)

-- a line behind those that stand there, and before those to come and what is behind them all
pub line_on : (out line later : List ℕ) (i n : ℕ) → i + 1 ≤ n → 12 * n ≤ length out → length line ≡ 12 →
    take (12 * (i + 1)) (paste out (12 * i) line 12) ++ (later ++ drop (12 * n) (paste out (12 * i) line 12)) ≡ take (12 * i) out ++ ((line ++ later) ++ drop (12 * n) out)
line_on out line later i n hi hn hl =
    let p = paste out (12 * i) line 12 in
    let a : 12 * (i + 1) ≡ 12 * i + 12 = omega arith in
    let t : take (12 * i + 12) p ≡ take (12 * i) out ++ take 12 line = take-paste out (12 * i) line 12 (omega arith) (omega arith) in
    let v : take 12 line ≡ line = take_all 12 line (omega arith) in
    let d : drop (12 * i + 12) p ≡ drop (12 * i + 12) out = drop-paste out (12 * i) line 12 (omega arith) (omega arith) in
    let k = 12 * n - (12 * i + 12) in
    let b : 12 * i + 12 + k ≡ 12 * n = omega arith in
    let w : drop (12 * n) p ≡ drop (12 * n) out = ap (λ c. drop c p) (sym b) ∙ (sym (drop-drop k (12 * i + 12) p) ∙ (ap (drop k) d ∙ (drop-drop k (12 * i + 12) out ∙ ap (λ c. drop c out) b))) in
    let s : take (12 * (i + 1)) p ≡ take (12 * i) out ++ line = ap (λ c. take c p) a ∙ (t ∙ ap (λ z. take (12 * i) out ++ z) v) in
    ap₂ (λ x y. x ++ (later ++ y)) s w ∙ simp append_assoc

module _ {D B : Type 0} (t : Table) (m : Meaning B) where
  pub lines_long : (es : List Event) (i : ℕ) (j : Junction D B) → length (lines_of t m j es i) ≡ 12 * length es
  lines_long [] i j = refl
  lines_long (e ∷ es) i j = simp length-append (omega (arith, lines_long es (i + 1) (after_event t m j e)))

  pub text_long : (es : List Event) (j : Junction D B) → length (text_of t m j es) ≡ 12 * length es + 20
  text_long es j = simp length-append (omega (arith, lines_long es 0 j))

  -- the end line behind what the events wrote
  pub ended : (es : List Event) (j k : Junction D B) (out between end line : List ℕ) (n : ℕ) (x : Totals) → k ≡ end_of t m j es → between ≡ lines_of t m j es 0 ++ drop (12 * length es) out →
      x ≡ k.counts.totals → line ≡ end_line x.grants x.ends x.rounds → n ≡ length es → end ≡ paste between (12 * n) line (length line) → end ≡ text_of t m j es ++ drop (length (text_of t m j es)) out
  ended es j k out between end line n x hk hb hx hl hn he =
      let p = pasted (lines_of t m j es 0) (drop (12 * length es) out) (totals_line (end_of t m j es)) 20 (12 * length es) (lines_long es 0 j) refl in
      rw (he, hl, hn, hx, hb, hk) p ∙ ap (λ o. text_of t m j es ++ o) (drop-drop 20 (12 * length es) out ∙ ap (λ i. drop i out) (sym (text_long es j)))
