use Rattle.std.proofs.Common.{◌+◌, ◌*◌, inl, refl, arith}
use Rattle.etcs_vars.specs.Reading.{done, more, refused}
use Rattle.etcs_c.proofs.found.check_unseen.Goals as goal

pub returns-in-Ok-Done : goal.returns-in-Ok-Done
returns-in-Ok-Done c =
    let (at, (e, at_is, any, within, outcome)) = rw (c.in-Ok-Done.is, c.in-Ok-Done.field-0-is) at c.fed_unseen.ensures in
    inl (done e (0 + 8 * c.in-Ok-Done.taken), outcome, (omega (arith, c.accept.ensures.taken), c.accept.ensures.status))

pub returns-in-Ok-More : goal.returns-in-Ok-More
returns-in-Ok-More c =
    let f = rw (c.in-Ok-More.is, c.in-Ok-More.field-0-is) at c.fed_unseen.ensures in
    inl (more, f.1.1, (refl, tt))

pub returns-in-Err-Refused : goal.returns-in-Err-Refused
returns-in-Err-Refused c =
    let w = c.in-Err-Refused in
    let said = c.refuse.ensures in
    let f = rw (w.is, w.field-0-is) at c.fed_unseen.ensures in
    inl (refused w.bit w.var, f.1.1, (said.bit, said.var, said.status))

pub unreachable-requires : goal.unreachable-requires
unreachable-requires c = (rw (c.in-Err-Ended.is, c.in-Err-Ended.field-0-is) at c.fed_unseen.ensures).1
