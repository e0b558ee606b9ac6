-- The facts of the contest, for any discipline that has its rows: who claims, who is left to look at, and that of two who claim one has yet to look at the other.
use Rattle.std.proofs.Common.{◌≡◌, ℕ, ◌<◌, ◌≤◌, Bool, true, false, ◌⊎◌, inl, inr, arith}
use Rattle.std.proofs.lemmas.Bool.Decides.{nat_tests}
use Rattle.boards.specs.Lines.{Line, settled}
use Rattle.steps.specs.declared.record.Record.{Record}
use Rattle.steps.specs.declared.lines.Part.TheVariants as part
use Rattle.steps.specs.declared.contest.Contest.{Contest}
use Rattle.sets.specs.Sets.{has}
use Rattle.steps.specs.Rows.{release_place, failed, to_number}
use Rattle.steps.specs.Contest.{label, looks, goes}
use Rattle.steps.specs.Table.{Table}
use Rattle.runs.specs.Runs.{Own, Reply, of_go, looked, after, is_done, stands, stirs, stirred, next_go, takes}
use Rattle.sets.proofs.SetLaws.{without_at, above_at, first_at, empty_at, member, member_in}

-- A line that is settled, low or high.
abbrev pub low : Line
low = settled false

abbrev pub high : Line
high = settled true

-- The places of a station that claims: it looks below, or above, or has won.
abbrev pub Claiming : ℕ → Type 0
Claiming n = (n ≡ 29) ⊎ ((32 ≤ n) × (n ≤ 37))

-- The places at which the claim may be other than low.
abbrev pub Raised : ℕ → Type 0
Raised n = ((28 ≤ n) × (n ≤ 30)) ⊎ ((32 ≤ n) × (n ≤ 40))

-- Who claims has its claim high.
abbrev pub Claims : Own → Type 0
Claims o = Claiming o.rec.place → o.claim ≡ high

-- Elsewhere the claim is low.
abbrev pub Rests : Own → Type 0
Rests o = (o.claim ≡ low) ⊎ Raised o.rec.place

-- At 32 and 33 the stations left are above.
abbrev pub Above : ℕ → ℕ → Own → Type 0
Above q k o = (o.rec.place ≡ 32) ⊎ (o.rec.place ≡ 33) → has o.rec.left k ≡ true → q < k

-- At 33 the station kept is left.
abbrev pub Keeps : Own → Type 0
Keeps o = o.rec.place ≡ 33 → has o.rec.left o.rec.kept ≡ true

-- Of two stations that claim, q below r, one has yet to look at the other.
abbrev pub Apart : ℕ → ℕ → Own → Own → Type 0
Apart q r a b =
    q < r → Claiming a.rec.place → Claiming b.rec.place
    → ((b.rec.place ≡ 29) × (has b.rec.left q ≡ true))
    ⊎ ((a.rec.place ≡ 29) ⊎ ((32 ≤ a.rec.place) × (a.rec.place ≤ 33) × (has a.rec.left r ≡ true)))

-- What holds of each station q, and of each number k.
pub record Sound (q k : ℕ) (o : Own) : Type 0 where
  pub claims : Claims o
  pub rests : Rests o
  pub above : Above q k o
  pub keeps : Keeps o

-- A go of the contest, answered.
abbrev pub contested : Contest → ℕ → ℕ → (ℕ → Own) → ℕ → ℕ → Bool → Reply
contested x won N w p k a = of_go (goes x won N p (w p).rec k (looked w (looks x (w p).rec k) a)) (w p)

-- Who has won holds the merge, or is about to.
abbrev pub Wins : ℕ → Type 0
Wins won = (34 ≤ won) × (won ≤ 37)

module _ (x : Contest) (won N : ℕ) (w : ℕ → Own) (p : ℕ) (j : ℕ) (a : Bool) (at : label x ≡ (w p).rec.place) (wins : Wins won) where
  claims_go : Claims (w p) → Claims (after (contested x won N w p j a) (w p))
  claims_go h = grind (arith, nat_tests)

  rests_go : Rests (w p) → Rests (after (contested x won N w p j a) (w p))
  rests_go h = grind (arith, nat_tests)

  above_go : (k : ℕ) → Above p k (w p) → Above p k (after (contested x won N w p j a) (w p))
  above_go k h = grind (arith, nat_tests, without_at, above_at)

  keeps_go : Keeps (w p) → Keeps (after (contested x won N w p j a) (w p))
  keeps_go h = grind (arith, nat_tests)

  -- The contest keeps its facts.
  pub sound_go : (k : ℕ) → Sound p k (w p) → Sound p k (after (contested x won N w p j a) (w p))
  sound_go k h = record { claims = claims_go h.claims; rests = rests_go h.rests; above = above_go k h.above; keeps = keeps_go h.keeps }

  -- The first of two moves: it goes on from 32 when none is left, and passes no one at 33 whose claim is high.
  pub apart_first : (r : ℕ) → r < N → N ≤ 16 → Claims (w r) → Apart p r (w p) (w r) → Apart p r (after (contested x won N w p j a) (w p)) (w r)
  apart_first r lt few c h = let n = empty_at (w p).rec.left r in grind (arith, nat_tests, without_at, above_at)

  -- The second of two moves: it goes on from 29 when none is left, and passes no one whose claim is high.
  pub apart_second : (q : ℕ) → p < N → N ≤ 16 → Claims (w q) → Apart q p (w q) (w p) → Apart q p (w q) (after (contested x won N w p j a) (w p))
  apart_second q lt few c h = let n = empty_at (w p).rec.left q in grind (arith, nat_tests, without_at, first_at)

  -- Who waits for no claim moves, with a member of what is left for its pick.
  pub goes_on : j ≡ member (w p).rec.left
      → (((w p).rec.place ≡ 31) ⊎ ((w p).rec.place ≡ 33) → (w (w p).rec.kept).claim ≡ low) → is_done (contested x won N w p j a) ≡ true
  goes_on e c = let m = member_in (w p).rec.left in grind (arith, nat_tests)

-- The places before the contest and after the merge.
abbrev pub Away : ℕ → Type 0
Away n = (n ≤ 28) ⊎ (38 ≤ n)

-- A go outside the contest: of a station that has won it, with its claim as it was, or to a place away from it.
abbrev pub Aside : Own → Own → Type 0
Aside o o' = (Wins o.rec.place × Wins o'.rec.place × (o'.claim ≡ o.claim)) ⊎ (Away o'.rec.place × Rests o')

-- It keeps the facts.
pub sound_aside : (q k : ℕ) (o o' : Own) → Aside o o' → Sound q k o → Sound q k o'
sound_aside q k o o' (inl x) h =
    let c = h.claims in
    record { claims = grind arith; rests = inr (inr (omega arith, omega arith)); above = grind arith; keeps = grind arith }
sound_aside q k o o' (inr x) h =
    let y : Away o'.rec.place = x.0 in
    record { claims = grind arith; rests = x.1; above = grind arith; keeps = grind arith }

pub apart_first_aside : (q r : ℕ) (a a' b : Own) → Aside a a' → Apart q r a b → Apart q r a' b
apart_first_aside q r a a' b x h = grind arith

pub apart_second_aside : (q r : ℕ) (a b b' : Own) → Aside b b' → Apart q r a b → Apart q r a b'
apart_second_aside q r a b b' x h = grind arith

-- The calls other than a go. A start comes from 21, where the claim is low.
pub sound_started : (q k : ℕ) (r : Record) (o : Own) → o.rec.place ≡ 21 → (22 ≤ r.place) × (r.place ≤ 28) → Sound q k o → Sound q k (stands r o)
sound_started q k r o e to h = let c = h.rests in record { claims = grind arith; rests = grind arith; above = grind arith; keeps = grind arith }

-- Who fails may still have its claim raised.
pub sound_failed : (q k : ℕ) (o : Own) → Sound q k (stands failed o)
sound_failed q k o = record { claims = grind arith; rests = inr (inr (omega arith, omega arith)); above = grind arith; keeps = grind arith }

-- Who leaves has yet to lower its claim.
pub sound_left : (q k : ℕ) (o : Own) → Sound q k (stands (to_number release_place o.rec) o)
sound_left q k o = record { claims = grind arith; rests = inr (inr (omega arith, omega arith)); above = grind arith; keeps = grind arith }

-- A pass that is taken changes neither record nor lines.
pub sound_taken : (q k : ℕ) (o : Own) → Sound q k o → Sound q k (takes o)
sound_taken q k o h = record { claims = h.claims; rests = h.rests; above = h.above; keeps = h.keeps }

-- The places at which a stir may loosen the claim: where the next go settles it, and where the station has failed.
abbrev pub Loosens : ℕ → Type 0
Loosens n = (n ≡ 28) ⊎ ((n ≡ 30) ⊎ ((38 ≤ n) × (n ≤ 40)))

pub sound_stirred : (t : Table) (N q k : ℕ) (o : Own) → (stirs o.rec.place (next_go t N q o.rec) part.Claim ≡ true → Loosens o.rec.place)
    → Sound q k o → Sound q k (stirred t N q o)
sound_stirred t N q k o l h =
    let c = h.claims in
    let r = h.rests in
    record { claims = grind (arith, nat_tests); rests = grind (arith, nat_tests); above = h.above; keeps = h.keeps }
