-- What a junction counts.
use Rattle.std.specs.Prelude.{ℕ, ◌+◌, Bool, true, false, cond, ◌&&◌, nat_lt}
use Rattle.sets.specs.declared.Set.{Set}
use Rattle.sets.specs.Sets.{has, plus, none, everywhere}
use Rattle.junction.specs.declared.counts.Counts.{Counts}
use Rattle.junction.specs.declared.counts.Note.{Note}

-- The largest number of 64 bits.
abbrev pub most : ℕ
most = 18446744073709551615

-- One more, as long as 64 bits hold it. The promise over whole runs shows that they always do.
abbrev pub more_if : Bool → ℕ → ℕ
more_if b n = cond b (cond (nat_lt n most) (n + 1) n) n

-- What an accepted call counts as. A start, and a stir, take up one of the limited calls.
abbrev pub by_start : Note
by_start = record { limited = true; granted = false; ended = false; shown = false }

-- A go shows the station too, and may grant a hold.
abbrev pub by_go : Bool → Note
by_go granted = record { limited = true; granted = granted; ended = false; shown = true }

-- A fail may end one.
abbrev pub by_fail : Bool → Note
by_fail ended = record { limited = true; granted = false; ended = ended; shown = false }

-- A leave is not limited; it shows the station, and may end a hold.
abbrev pub by_leave : Bool → Note
by_leave ended = record { limited = false; granted = false; ended = ended; shown = true }

abbrev pub seen_with : Note → ℕ → Set → Set
seen_with k p s = cond k.shown (plus p s) s

-- A round ends with the call by which the last of N stations is seen.
abbrev pub round_over : Note → ℕ → ℕ → Set → Bool
round_over k N p s = k.shown && everywhere N (has (seen_with k p s))

-- A call of station p, of N stations, is counted.
abbrev pub noted : Note → ℕ → ℕ → Counts → Counts
noted k N p c = record {
  used = more_if k.limited c.used;
  totals = record {
    grants = more_if k.granted c.totals.grants;
    ends = more_if k.ended c.totals.ends;
    rounds = more_if (round_over k N p c.seen) c.totals.rounds;
  };
  seen = cond (round_over k N p c.seen) none (seen_with k p c.seen);
}

abbrev pub new_counts : Counts
new_counts = record { used = 0; totals = record { grants = 0; ends = 0; rounds = 0 }; seen = none }
