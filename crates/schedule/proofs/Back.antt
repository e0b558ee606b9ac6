-- A plan within the limits, written as bytes, decodes to that plan.
use Rattle.std.proofs.Common.{◌≡◌, ℕ, suc, ◌+◌, ◌*◌, ◌/◌, ◌%◌, false, List, [], ◌∷◌, ◌++◌, length, take, drop, is_none, Some, None, Ok, Result, refl, ap, ◌∙◌, arith, length-append}
use Rattle.std.proofs.lemmas.List.{take_at, drop_at, drop-drop}
use Rattle.schedule.specs.declared.event.Event.{Event}
use Rattle.schedule.specs.declared.event.Event.TheVariants.{Start, Go, Stir, Fail, Leave}
use Rattle.schedule.specs.declared.discipline.DisciplineKind.{DisciplineKind}
use Rattle.schedule.specs.declared.discipline.DisciplineKind.TheVariants.{FourLine, Plain}
use Rattle.schedule.specs.declared.refusal.Refusal.{Refusal}
use Rattle.schedule.specs.Letters.{discipline_letter, discipline_of, event_of, letter_of, station_of, pick_of}
use Rattle.schedule.specs.Events.{first_unknown, events_of}
use Rattle.schedule.specs.Decode.{Plan, plan_in, decode}
use Rattle.schedule.specs.Encode.{letters, operands, encode, Fits, ReadsBack}
use Rattle.schedule.proofs.Told.{known_first}
use Rattle.schedule.proofs.Stages.{body_is, decode_is}

discipline_back : (d : DisciplineKind) → discipline_of (discipline_letter d) ≡ Ok d
discipline_back FourLine = refl
discipline_back Plain = refl

event_back : (e : Event) → event_of (letter_of e) (station_of e) (pick_of e) ≡ Some e
event_back (Start p) = refl
event_back (Go p k) = refl
event_back (Stir p) = refl
event_back (Fail p) = refl
event_back (Leave p) = refl

known : (e : Event) → is_none (event_of (letter_of e) 0 0) ≡ false
known (Start p) = refl
known (Go p k) = refl
known (Stir p) = refl
known (Fail p) = refl
known (Leave p) = refl

all_known : (es : List Event) → first_unknown (letters es) ≡ None
all_known [] = refl
all_known (e ∷ es) = known_first (letter_of e) (letters es) (known e) (all_known es)

events_back : (es : List Event) → events_of (letters es) (operands es) ≡ es
events_back [] = refl
events_back (e ∷ es) = rw (event_back e, events_back es) refl

length_letters : (es : List Event) → length (letters es) ≡ length es
length_letters [] = refl
length_letters (e ∷ es) = ap suc (length_letters es)

length_operands : (es : List Event) → length (operands es) ≡ 2 * length es
length_operands [] = refl
length_operands (e ∷ es) = omega (arith, length_operands es)

-- The parts of what follows the header.
module _ (es : List Event) (noise : List ℕ) where
  length_behind : length (letters es ++ (operands es ++ noise)) ≡ 3 * length es + length noise
  length_behind = simp length-append (omega (arith, length_letters es, length_operands es))

  letters_there : take (length es) (letters es ++ (operands es ++ noise)) ≡ letters es
  letters_there = take_at (letters es) (operands es ++ noise) (length es) (length_letters es)

  after_letters : drop (length es) (letters es ++ (operands es ++ noise)) ≡ operands es ++ noise
  after_letters = drop_at (letters es) (operands es ++ noise) (length es) (length_letters es)

  operands_there : take (2 * length es) (operands es ++ noise) ≡ operands es
  operands_there = take_at (operands es) noise (2 * length es) (length_operands es)

  noise_there : drop (3 * length es) (letters es ++ (operands es ++ noise)) ≡ noise
  noise_there = grind (arith, drop-drop (2 * length es) (length es) (letters es ++ (operands es ++ noise)), after_letters, drop_at (operands es) noise (2 * length es) (length_operands es))

plan_back : (p : Plan) → plan_in p.discipline p.stations (length p.events) (letters p.events ++ (operands p.events ++ p.noise)) ≡ p
plan_back p = rw (letters_there p.events p.noise, after_letters p.events p.noise, operands_there p.events p.noise, noise_there p.events p.noise, events_back p.events) refl

decode_encode : (p : Plan) → Fits p → decode (encode p) ≡ Ok p
decode_encode p f =
    let rest = letters p.events ++ (operands p.events ++ p.noise) in
    let l = length_behind p.events p.noise in
    let k : 256 * (length p.events / 256) + length p.events % 256 ≡ length p.events = omega arith in
    let u : first_unknown (take (length p.events) rest) ≡ None = rw (letters_there p.events p.noise) (all_known p.events) in
    rw (
      decode_is (encode p) (omega (arith, l, f.short)) (omega (arith, l)),
      discipline_back p.discipline,
      k,
      body_is p.discipline p.stations (length p.events) rest f.few_events (omega (arith, l)) (λ z. omega (arith, f.some_station)) f.few_stations u,
      plan_back p,
    ) refl

pub reads_back : (bytes : List ℕ) (r : Result Plan Refusal) → r ≡ decode bytes → ReadsBack bytes r
reads_back bytes r h p f b = h ∙ (ap decode b ∙ decode_encode p f)
