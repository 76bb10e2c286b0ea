use Rattle.std.proofs.Common.{refl, arith}
use Rattle.etcs_rows.proofs.CauseLemmas.{no_number}
use Rattle.etcs_rows.proofs.cause.one_number.Goals as goal

pub returns-in-Telegram : goal.returns-in-Telegram
returns-in-Telegram c =
    let e = c.ends-low in
    rw c.in-Telegram.is ((e.ensures.all e.result.0).1 (omega arith, e.ensures.order), tt)

pub returns-in-Some : goal.returns-in-Some
returns-in-Some c =
    let e = c.ends-low in
    let f = c.in-Some.ensures.some in
    rw (c.in-Message.is, c.from.ensures) ((e.ensures.all c.in-Some.nid).1 (f.0, f.1), f.2)

pub returns-in-None : goal.returns-in-None
returns-in-None c =
    let e = c.ends-low in
    rw c.in-Message.is (no_number c.in-Message.way c.args.rest c.args.bits e.result.0 e.result.1 e.ensures.all (c.in-None.ensures.none refl))
