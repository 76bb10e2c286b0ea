use Rattle.std.proofs.Common.{[], inl, refl}
use Rattle.etcs_bits.specs.Bits.{bits}
use Rattle.etcs_vars.specs.Reading.{more, refused}
use Rattle.etcs_text.specs.Entries.{entry_value}
use Rattle.etcs_c.proofs.Firsts.{first_whole}
use Rattle.etcs_c.proofs.found.first_item.Goals as goal

pub returns-in-Ok : goal.returns-in-Ok
returns-in-Ok c =
    let f = c.feed.ensures.answer [] c.requires in
    first_whole c.args.reader.now.kind (bits c.args.bytes.now) c.in-Ok-Done.taken c.feed.new.self.progress (entry_value c.in-Ok.entry) (rw (c.in-Ok-Done.is, c.in-Ok-Done.field-0-is) at f) c.in-Ok.ensures.some

pub unreachable-requires : goal.unreachable-requires
unreachable-requires c =
    let f = c.feed.ensures.answer [] c.requires in
    let (e, at, any, within, outcome) = rw (c.in-Ok-Done.is, c.in-Ok-Done.field-0-is) at f in
    c.in-Err.ensures.none e at

pub returns-in-Ok-More : goal.returns-in-Ok-More
returns-in-Ok-More c =
    let f = c.feed.ensures.answer [] c.requires in
    inl (more, (rw (c.in-Ok-More.is, c.in-Ok-More.field-0-is) at f).1, (refl, tt))

pub returns-in-Err-Refused : goal.returns-in-Err-Refused
returns-in-Err-Refused c =
    let w = c.in-Err-Refused in
    let said = c.refuse.ensures in
    let f = c.feed.ensures.answer [] c.requires in
    inl (refused w.bit w.var, (rw (w.is, w.field-0-is) at f).1, (said.bit, said.var, said.status))

pub unreachable-requires-in-Err-Ended : goal.unreachable-requires-in-Err-Ended
unreachable-requires-in-Err-Ended c =
    let f = c.feed.ensures.answer [] c.requires in
    rw (c.in-Err-Ended.is, c.in-Err-Ended.field-0-is) at f
