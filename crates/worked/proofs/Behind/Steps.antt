-- What each of the two stations keeps by its own goes and stirs.
use Rattle.std.proofs.Common.{◌≡◌, ℕ, zero, suc, ◌/◌, ◌<◌, ◌≤◌, Bool, true, false, cond, eqb, ◌≢◌, ◌⊎◌, refl, arith}
use Rattle.std.proofs.lemmas.Bool.Decides.{nat_tests}
use Rattle.boards.specs.Lines.{loose}
use Rattle.sets.specs.Sets.{has}
use Rattle.steps.specs.FourLine.{four_line, odd}
use Rattle.runs.specs.Runs as runs
use Rattle.runs.specs.Runs.{Own, is_done, reading}
use Rattle.sets.proofs.SetLaws.{without_at, plus_at, empty_at, member, member_in}
use Rattle.worked.proofs.Lone.FourFit.{low, high, turn, SeenAs}

-- Station 0 at 25 to 34 of its first start.
abbrev pub InWay : Own → Type 0
InWay o = (25 ≤ o.rec.place) × (o.rec.place ≤ 34)

-- its turn of side 0 is high, though it may be stirred at 34
abbrev pub Raised : Own → Type 0
Raised o = InWay o → (o.rec.side ≡ false) × ((o.turn0 ≡ high) ⊎ ((o.rec.place ≡ 34) × (o.turn0 ≡ loose))) × (o.turn1 ≡ low)

-- Station 1 at 22 to 27.
abbrev pub InDoor : Own → Type 0
InDoor o = (22 ≤ o.rec.place) × (o.rec.place ≤ 27)

-- up to 23 its turns are low
abbrev pub Unturned : Own → Type 0
Unturned o = o.rec.place ≤ 23 → (o.turn0 ≡ low) × (o.turn1 ≡ low)

-- up to 23 it has turns of the two stations left, and 0 is left or copied
abbrev pub Left : ℕ → Own → Type 0
Left k o = o.rec.place ≤ 23 → has o.rec.left k ≡ true → k < 4

abbrev pub Sees : Own → Type 0
Sees o = o.rec.place ≤ 23 → (has o.rec.left 0 ≡ true) ⊎ (has o.rec.copy 0 ≡ true)

abbrev pub Copied : Own → Type 0
Copied o = 24 ≤ o.rec.place → has o.rec.copy 0 ≡ true

-- it copies nothing else
abbrev pub Only : ℕ → Own → Type 0
Only k o = has o.rec.copy k ≡ true → k ≡ 0

abbrev pub Kept : Own → Type 0
Kept o = o.rec.place ≡ 27 → has o.rec.copy o.rec.kept ≡ true

pub record Behind (o : Own) : Type 0 where
  pub in_door : InDoor o
  pub unturned : Unturned o
  pub left : (k : ℕ) → Left k o
  pub sees : Sees o
  pub copied : Copied o
  pub only : (k : ℕ) → Only k o
  pub kept : Kept o

-- A go of station 0.
module _ (N : ℕ) (w : ℕ → Own) (k : ℕ) (heard : Bool) (x : SeenAs (w 0)) where
  pub raised_go : InWay (w 0) → Raised (w 0) → Raised (runs.after (runs.went four_line N w 0 k heard) (w 0))
  raised_go i h = let r = h i in grind (arith, nat_tests)

  -- a go that keeps it there leaves the turn high
  pub high_go : InWay (w 0) → Raised (w 0) → InWay (runs.after (runs.went four_line N w 0 k heard) (w 0)) → (runs.after (runs.went four_line N w 0 k heard) (w 0)).turn0 ≡ high
  high_go i h i' = let r = h i in grind (arith, nat_tests)

-- A stir of either.
pub raised_stir : (N : ℕ) (o : Own) → SeenAs o → InWay o → Raised o → Raised (runs.stirred four_line N 0 o)
raised_stir N o x i h = let r = h i in grind (arith, nat_tests)

unturned_stir : (N : ℕ) (o : Own) → SeenAs o → InDoor o → Unturned o → Unturned (runs.stirred four_line N 1 o)
unturned_stir N o x i h = grind (arith, nat_tests)

pub behind_stir : (N : ℕ) (o : Own) → SeenAs o → Behind o → Behind (runs.stirred four_line N 1 o)
behind_stir N o x b = record {
  in_door = b.in_door;
  unturned = unturned_stir N o x b.in_door b.unturned;
  left = b.left;
  sees = b.sees;
  copied = b.copied;
  only = b.only;
  kept = b.kept;
}

-- What turn k reads, of the four: only turn 0 is high.
abbrev pub Reads : (ℕ → Own) → ℕ → Bool → Type 0
Reads w k heard = reading (turn (odd k) (w (k / 2))) heard ≡ eqb k 0

pub reads : (w : ℕ → Own) (heard : Bool) (k : ℕ) → k < 4 → (k ≡ 0 → reading (w 0).turn0 heard ≡ true) → (w 0).turn1 ≡ low → (2 ≤ k → ((w 1).turn0 ≡ low) × ((w 1).turn1 ≡ low)) → Reads w k heard
unfolding odd
reads w heard zero lt a b c = a refl
reads w heard (suc zero) lt a b c = rw b refl
reads w heard (suc (suc zero)) lt a b c = rw (c (omega arith)).0 refl
reads w heard (suc (suc (suc zero))) lt a b c = rw (c (omega arith)).1 refl
reads w heard (suc (suc (suc (suc k)))) lt a b c = absurd (omega arith)

-- A go of station 1.
module _ (N : ℕ) (w : ℕ → Own) (k : ℕ) (heard : Bool) (x : SeenAs (w 1)) where
  abbrev pub now : Own
  now = runs.after (runs.went four_line N w 1 k heard) (w 1)

  abbrev pub Reads23 : Type 0
  Reads23 = (w 1).rec.place ≡ 23 → has (w 1).rec.left k ≡ true → Reads w k heard

  abbrev pub Reads27 : Type 0
  Reads27 = (w 1).rec.place ≡ 27 → reading (turn (odd (w 1).rec.kept) (w ((w 1).rec.kept / 2))) heard ≡ true

  in_door_go : InDoor (w 1) → Copied (w 1) → InDoor now
  in_door_go h c = let e = empty_at (w 1).rec.copy 0 in grind (arith, nat_tests)

  unturned_go : InDoor (w 1) → Unturned (w 1) → Unturned now
  unturned_go h u = grind (arith, nat_tests)

  left_go : (i : ℕ) → InDoor (w 1) → Left i (w 1) → Left i now
  left_go i h l = grind (arith, nat_tests, without_at)

  sees_go : InDoor (w 1) → Sees (w 1) → Reads23 → Sees now
  sees_go h l r = grind (arith, nat_tests, without_at, plus_at)

  copied_go : InDoor (w 1) → Sees (w 1) → Copied (w 1) → Reads27 → Copied now
  copied_go h l c r = let e = empty_at (w 1).rec.left 0 in grind (arith, nat_tests)

  only_go : (i : ℕ) → InDoor (w 1) → Only i (w 1) → Reads23 → Only i now
  only_go i h l r = grind (arith, nat_tests, without_at, plus_at)

  kept_go : InDoor (w 1) → Kept (w 1) → Kept now
  kept_go h l = grind (arith, nat_tests)

  pub behind_go : Behind (w 1) → Reads23 → Reads27 → Behind now
  behind_go b r s = record {
    in_door = in_door_go b.in_door b.copied;
    unturned = unturned_go b.in_door b.unturned;
    left = λ i. left_go i b.in_door (b.left i);
    sees = sees_go b.in_door b.sees r;
    copied = copied_go b.in_door b.sees b.copied s;
    only = λ i. only_go i b.in_door (b.only i) r;
    kept = kept_go b.in_door b.kept;
  }

  pub waits_27 : (w 1).rec.place ≡ 27 → Reads27 → runs.went four_line N w 1 k heard ≡ runs.waits
  waits_27 at r = grind (arith, nat_tests)

-- It goes on with a turn that is left or copied.
abbrev pub pick : Own → ℕ
pick o = cond (eqb o.rec.place 26) (member o.rec.copy) (member o.rec.left)

pub moves : (N : ℕ) (w : ℕ → Own) (heard : Bool) → SeenAs (w 1) → InDoor (w 1) → (w 1).rec.place ≢ 27 → is_done (runs.went four_line N w 1 (pick (w 1)) heard) ≡ true
moves N w heard x h off = let l = member_in (w 1).rec.left in let c = member_in (w 1).rec.copy in grind (arith, nat_tests)
