-- The lines of the stations on the board, as a call of one station changes them.
use Rattle.std.proofs.Common.{◌≡◌, ℕ, ◌*◌, ◌<◌, ◌≤◌, Bool, true, false, cond, ltb, ◌≢◌, Some, None, Option, refl, ◌∙◌, arith, lt-ltb}
use Rattle.std.proofs.lemmas.Bool.{cond_both}
use Rattle.boards.specs.Lines.{Line, settled, loose, Meaning, Lawful}
use Rattle.steps.specs.declared.lines.Part.{Part}
use Rattle.steps.specs.declared.lines.Part.TheVariants.{Door, Claim, Turn}
use Rattle.steps.specs.declared.lines.Flag.{Flag}
use Rattle.steps.specs.declared.go.Go.{Go}
use Rattle.steps.specs.Rows.{flag}
use Rattle.steps.specs.Table.{Table}
use Rattle.runs.specs.Laws.{LinesApart}
use Rattle.runs.specs.Runs.{same_part, stirs}
use Rattle.junction.specs.Wires.{heard, settled_on, loosened_if, stirred_board}

pub same_is : (x y : Part) → same_part x y ≡ true → x ≡ y
same_is x y e = grind arith

same_self : (x : Part) → same_part x x ≡ true
same_self x = grind arith

-- a line x after y was loosened, where g says so
abbrev loose_if : Bool → Part → Part → Line → Line
loose_if g y x v = cond g (cond (same_part y x) loose v) v

-- four lines loosened one after the other, where g says so
four_loose : (g : Part → Bool) (f : Part → Line) (x : Part) → loose_if (g (Turn true)) (Turn true) x (loose_if (g (Turn false)) (Turn false) x (loose_if (g Claim) Claim x (loose_if (g Door) Door x (f x)))) ≡ cond (g x) loose (f x)
four_loose g f x = grind arith

module _ {B : Type 0} (t : Table) (m : Meaning B) (law : Lawful m) (apart : LinesApart t) (N : ℕ) where
  -- where the line of that name is on the board
  abbrev At : ℕ → Part → ℕ → Type 0
  At q x l = t.number N (flag q x) ≡ Some l

  -- b' has b's lines, but those of station p are as f says
  pub record Touched (b b' : B) (p : ℕ) (f : Part → Line) : Type 0 where
    pub count : m.count b' ≡ m.count b
    pub own_line : (x : Part) (l : ℕ) → At p x l → m.line b' l ≡ f x
    pub other_line : (q : ℕ) (x : Part) (l : ℕ) → q ≢ p → At q x l → m.line b' l ≡ m.line b l

  pub retouch : (b c : B) (p : ℕ) (f g : Part → Line) → ((x : Part) → f x ≡ g x) → Touched b c p f → Touched b c p g
  retouch b c p f g e h = record { count = h.count; own_line = λ x l at. h.own_line x l at ∙ e x; other_line = h.other_line }

  pub in_room : (b : B) (x : Flag) (l : ℕ) → N * t.per ≤ m.count b → t.number N x ≡ Some l → l < m.count b
  in_room b x l room at = let w = apart.below N x l at in omega arith

  -- one line of station p is written
  written : (b c d : B) (p : ℕ) (f : Part → Line) (y : Part) (k : ℕ) (v : Line) → At p y k → m.count d ≡ m.count c → m.line d k ≡ v → ((i : ℕ) → k ≢ i → m.line d i ≡ m.line c i) → Touched b c p f → Touched b d p (λ x. cond (same_part y x) v (f x))
  written b c d p f y k v here count now-v there h = record {
    count = count ∙ h.count;
    own_line = λ x l at.
        let one = apart.apart N (flag p y) (flag p x) l in
        let same = same_is y x in
        let self = same_self y in
        let other = there l in
        let own = h.own_line x l at in
        grind arith;
    other_line = λ q x l n at.
        let one = apart.apart N (flag p y) (flag q x) l in
        let other = there l in
        let rest = h.other_line q x l n at in
        grind arith;
  }

  -- what is done to a line that has no number is done to no line
  nowhere_written : (b c : B) (p : ℕ) (f : Part → Line) (y : Part) (v : Line) → t.number N (flag p y) ≡ None → Touched b c p f → Touched b c p (λ x. cond (same_part y x) v (f x))
  nowhere_written b c p f y v none h = record {
    count = h.count;
    own_line = λ x l at. let same = same_is y x in let own = h.own_line x l at in grind arith;
    other_line = h.other_line;
  }

  number_cases : (x : Flag) (P : Type 0) → (t.number N x ≡ None → P) → ((l : ℕ) → t.number N x ≡ Some l → P) → P
  number_cases x P none some = at (t.number N x) refl
    where
      at : (o : Option ℕ) → t.number N x ≡ o → P
      at None e = none e
      at (Some l) e = some l e

  pub touch_settle : (b c : B) (p : ℕ) (f : Part → Line) (y : Part) (v : Bool) → N * t.per ≤ m.count b → Touched b c p f → Touched b (settled_on t m N c (flag p y) v) p (λ x. cond (same_part y x) (settled v) (f x))
  touch_settle b c p f y v room h =
      number_cases (flag p y) _
      (λ none. rw none (nowhere_written b c p f y (settled v) none h))
      (λ l at.
      let hc = h.count in
      let i : l < m.count c = in_room c (flag p y) l (omega arith) at in
      rw at (rw (lt-ltb l (m.count c) i) (written b c (m.set_to c l v) p f y l (settled v) at (law.settle_count c l v) (law.settle_same c l v i) (λ k n. law.settle_other c l k v i n) h)))

  touch_loosen : (b c : B) (p : ℕ) (f : Part → Line) (y : Part) (g : Bool) → N * t.per ≤ m.count b → Touched b c p f → Touched b (loosened_if t m g N c (flag p y)) p (λ x. cond g (cond (same_part y x) loose (f x)) (f x))
  touch_loosen b c p f y false room h = h
  touch_loosen b c p f y true room h =
      number_cases (flag p y) _
      (λ none. rw none (nowhere_written b c p f y loose none h))
      (λ l at.
      let hc = h.count in
      let i : l < m.count c = in_room c (flag p y) l (omega arith) at in
      rw at (rw (lt-ltb l (m.count c) i) (written b c (m.loosened c l) p f y l loose at (law.loosen_count c l) (law.loosen_same c l i) (λ k n. law.loosen_other c l k i n) h)))

  pub touch_stir : (b : B) (p place : ℕ) (g : Go) (f : Part → Line) → N * t.per ≤ m.count b → Touched b b p f → Touched b (stirred_board t m N p place g b) p (λ x. cond (stirs place g x) loose (f x))
  touch_stir b p place g f room h =
      let says : Part → Bool = stirs place g in
      retouch b _ p _ _ (λ x. four_loose says f x)
      (touch_loosen b _ p _ (Turn true) (says (Turn true)) room
      (touch_loosen b _ p _ (Turn false) (says (Turn false)) room
      (touch_loosen b _ p _ Claim (says Claim) room (touch_loosen b _ p _ Door (says Door) room h))))

  pub touch_read : (b : B) (p : ℕ) (f : Part → Line) (o : Option Flag) → Touched b b p f → Touched b (heard t m N b o) p f
  touch_read b p f None h = h
  touch_read b p f (Some z) h =
      number_cases z _
      (λ none. rw none h)
      (λ l at. rw at (cond_both (ltb l (m.count b)) _ _ (λ c. Touched b c p f)
      (λ _. record {
        count = law.read_count b _;
        own_line = λ x i s. law.read_line b _ _ ∙ h.own_line x i s;
        other_line = λ q x i n s. law.read_line b _ _;
      })
      (λ _. h)))
