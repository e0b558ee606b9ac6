-- In both disciplines distinct lines have distinct numbers, all below the stations times the lines of each, and what a go reads is on the board.
use Rattle.std.proofs.Common.{◌≡◌, ℕ, ◌+◌, ◌*◌, ◌<◌, ◌≤◌, true, false, ltb, Some, None, Option, sym, refl, ◌∙◌, arith, lt-ltb}
use Rattle.std.proofs.lemmas.Bool.Decides.{nat_tests}
use Rattle.std.proofs.lemmas.Bool.{cond_both}
use Rattle.steps.specs.declared.record.Record.{Record}
use Rattle.steps.specs.declared.lines.Part.{Part}
use Rattle.steps.specs.declared.lines.Part.TheVariants.{Door, Claim, Turn}
use Rattle.steps.specs.declared.lines.Flag.{Flag}
use Rattle.steps.specs.declared.contest.Contest.{Contest as Step}
use Rattle.steps.specs.declared.contest.Contest.TheVariants.{RaiseClaim, LookBelow, LowerClaim, AwaitLower, PickAbove, AwaitAbove, Release}
use Rattle.steps.specs.declared.plain.PlainPlace.{PlainPlace}
use Rattle.steps.specs.declared.plain.PlainPlace.TheVariants.{Idle, Contest, Merging, Failed}
use Rattle.sets.specs.Sets.{has}
use Rattle.steps.specs.Rows.{flag}
use Rattle.steps.specs.Contest as contest
use Rattle.steps.specs.FourLine.{four_line, offset}
use Rattle.steps.specs.Plain.{plain, view, looks, number}
use Rattle.runs.specs.Laws.{LinesApart, Numbered}

flag_same : (x y : Flag) → x.station ≡ y.station → x.part ≡ y.part → x ≡ y
flag_same x y a b = λ i. flag (a i) (b i)

-- The number of that line of station p, of N stations: the four lines of a station stand one after another. Proofs speak of the numbers by this name.
abbrev pub number_of : ℕ → ℕ → Part → ℕ
number_of N p x = 4 * p + offset x

-- A line of the four-line discipline is of a station that is there, and has the number that the rules give it.
four_number : (N : ℕ) (x : Flag) (l : ℕ) → four_line.number N x ≡ Some l → (x.station < N) × (l ≡ number_of N x.station x.part)
four_number N x l =
    cond_both (ltb x.station N) _ _ (λ o. o ≡ Some l → (x.station < N) × (l ≡ number_of N x.station x.part))
    (λ t e. (grind (arith, nat_tests), cc))
    (λ t e. absurd (grind arith))

offset_lt : (x : Part) → offset x < 4
offset_lt Door = omega arith
offset_lt Claim = omega arith
offset_lt (Turn true) = omega arith
offset_lt (Turn false) = omega arith

offset_apart : (x y : Part) → offset x ≡ offset y → x ≡ y
offset_apart x y e = grind arith

number_below : (N p : ℕ) (x : Part) → p < N → number_of N p x < N * 4
number_below N p x lt = let m = offset_lt x in omega arith

number_apart : (N p q : ℕ) (x y : Part) → p < N → q < N → number_of N p x ≡ number_of N q y → (p ≡ q) × (x ≡ y)
number_apart N p q x y lp lq e =
    let m = offset_lt x in
    let n = offset_lt y in
    (omega arith, offset_apart x y (omega arith))

four_apart : (N : ℕ) (x y : Flag) (l : ℕ) → four_line.number N x ≡ Some l → four_line.number N y ≡ Some l → x ≡ y
four_apart N x y l a b =
    let u = four_number N x l a in
    let v = four_number N y l b in
    let same = number_apart N x.station y.station x.part y.part u.0 v.0 (sym u.1 ∙ v.1) in
    flag_same x y same.0 same.1

-- Every line of a station that is there has a number.
pub four_there : (N : ℕ) (x : Flag) → x.station < N → (l : ℕ) × (four_line.number N x ≡ Some l)
four_there N x lt = (number_of N x.station x.part, rw (lt-ltb x.station N lt) refl)

four_numbered : (N : ℕ) (o : Option Flag) → Numbered four_line N o
four_numbered N None = tt
four_numbered N (Some x) = four_there N x

pub four_lines : LinesApart four_line
four_lines = record {
  below = λ N x l e. let u = four_number N x l e in let m = number_below N x.station x.part u.0 in omega arith;
  apart = four_apart;
  absent = λ N x le. grind (arith, nat_tests);
  looks = λ N p s k. four_numbered N _;
}

-- Only the claim is a line of the plain discipline.
plain_number : (N q : ℕ) (x : Part) (l : ℕ) → number N q x ≡ Some l → (q < N) × (x ≡ Claim) × (l ≡ q)
plain_number N q Door l = λ e. absurd (grind arith)
plain_number N q (Turn t) l = λ e. absurd (grind arith)
plain_number N q Claim l =
    cond_both (ltb q N) _ _ (λ o. o ≡ Some l → (q < N) × (Claim ≡ Claim) × (l ≡ q)) (λ t e. (grind (arith, nat_tests), refl, cc)) (λ t e. absurd (grind arith))

plain_apart : (N : ℕ) (x y : Flag) (l : ℕ) → plain.number N x ≡ Some l → plain.number N y ≡ Some l → x ≡ y
plain_apart N x y l a b =
    let u = plain_number N x.station x.part l a in
    let v = plain_number N y.station y.part l b in
    flag_same x y (omega arith) (cc)

plain_absent : (N q : ℕ) (x : Part) → N ≤ q → number N q x ≡ None
plain_absent N q Door le = refl
plain_absent N q (Turn t) le = refl
plain_absent N q Claim le = grind (arith, nat_tests)

claim_numbered : (N k : ℕ) → Numbered plain N (Some (flag k Claim))
claim_numbered N k lt = (k, rw (lt-ltb k N lt) refl)

-- The contest reads nothing but claims.
contest_numbered : (N : ℕ) (x : Step) (s : Record) (k : ℕ) → Numbered plain N (contest.looks x s k)
contest_numbered N RaiseClaim s k = tt
contest_numbered N LookBelow s k = cond_both (has s.left k) _ _ (Numbered plain N) (λ _. claim_numbered N k) (λ _. tt)
contest_numbered N LowerClaim s k = tt
contest_numbered N AwaitLower s k = claim_numbered N s.kept
contest_numbered N PickAbove s k = tt
contest_numbered N AwaitAbove s k = claim_numbered N s.kept
contest_numbered N Release s k = tt

plain_numbered : (N : ℕ) (v : PlainPlace) (s : Record) (k : ℕ) → Numbered plain N (looks v s k)
plain_numbered N Idle s k = tt
plain_numbered N (Contest x) s k = contest_numbered N x s k
plain_numbered N Merging s k = tt
plain_numbered N Failed s k = tt

pub plain_lines : LinesApart plain
plain_lines = record {
  below = λ N x l e. let u = plain_number N x.station x.part l e in omega arith;
  apart = plain_apart;
  absent = λ N x le. plain_absent N x.station x.part le;
  looks = λ N p s k. plain_numbered N (view s.place) s k;
}
