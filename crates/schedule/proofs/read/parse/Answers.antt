use Rattle.std.proofs.Common.{◌≡◌, ◌≤◌, ◌+◌, ◌*◌, get_or, length, rules, arith}
use Rattle.std.proofs.lemmas.List.{take_rest}
use Rattle.schedule.proofs.Stages.{decode_is}
use Rattle.schedule.proofs.Back.{reads_back}
use Rattle.schedule.specs.Decode.{decode}
use Rattle.schedule.specs.Kept.{fits_if_read}
use Rattle.schedule.specs.View.{answer}
use Rattle.schedule.proofs.read.parse.Goals as goal

pub returns-then-bytes-gt-LONGEST-clause-reads_back : goal.returns-then-bytes-gt-LONGEST-clause-reads_back
returns-then-bytes-gt-LONGEST-clause-reads_back c = reads_back c.args.bytes.now _ (search rules)

pub returns : goal.returns
returns c =
    let bytes = c.args.bytes.now in
    let q : 4 ≤ length bytes = search rules in
    let d = decode_is bytes c.if-bytes-gt-LONGEST.false q in
    let t = take_rest bytes 4 in
    let n : c.from.result ≡ 256 * get_or bytes 2 0 + get_or bytes 3 0 = omega arith in
    let v : answer c.body.result ≡ decode bytes = rw (d, ← n, ← t, ← c.try_from.ensures, c.in_ok-try_from.was) c.body.ensures in
    record { value = v; fits = fits_if_read c.body.result; reads_back = reads_back bytes (answer c.body.result) v }
