use Rattle.std.proofs.Common.{[], refl}
use Rattle.etcs_sequence.proofs.RoundTrips.{fed_first}
use Rattle.etcs_sequence.proofs.first.first_item.Goals as goal

pub returns-in-Some-clause-some : goal.returns-in-Some-clause-some
returns-in-Some-clause-some g c =
    let I = g.R.ItemRest in
    let f = c.feed.ensures.answer [] c.requires in
    fed_first (I.Reads c.args.reader.size) I.value I.IsValue c.args.bytes.now c.in-Some.item c.in-Ok-Done.taken I.least c.feed.new.self.progress (rw (c.in-Ok-Done.is, c.in-Ok-Done.field-0-is) at f) c.in-Some.ensures.some.0

pub unreachable-requires : goal.unreachable-requires
unreachable-requires g c =
    let f = c.feed.ensures.answer [] c.requires in
    let (v, at, is, le, read) = rw (c.in-Ok-Done.is, c.in-Ok-Done.field-0-is) at f in
    (c.in-None.ensures.none refl).1 v at

pub returns-in-Ok-More-clause-none : goal.returns-in-Ok-More-clause-none
returns-in-Ok-More-clause-none g c =
    let f = c.feed.ensures.answer [] c.requires in
    (rw (c.in-Ok-More.is, c.in-Ok-More.field-0-is) at f).1.0

pub returns-in-Err-Refused-clause-none : goal.returns-in-Err-Refused-clause-none
returns-in-Err-Refused-clause-none g c =
    let f = c.feed.ensures.answer [] c.requires in
    (rw (c.in-Err-Refused.is, c.in-Err-Refused.field-0-is) at f).1.0.0

pub unreachable-requires-in-Err-Ended : goal.unreachable-requires-in-Err-Ended
unreachable-requires-in-Err-Ended g c =
    let f = c.feed.ensures.answer [] c.requires in
    rw (c.in-Err-Ended.is, c.in-Err-Ended.field-0-is) at f
