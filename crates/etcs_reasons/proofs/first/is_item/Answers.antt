use Rattle.etcs_text.proofs.Verdicts.{none_of_more, none_of_refused}
use Rattle.etcs_reasons.proofs.Feeding.{none_decided, whole_decided}
use Rattle.etcs_reasons.proofs.first.is_item.Goals as goal

pub returns-in-Ok-Done : goal.returns-in-Ok-Done
returns-in-Ok-Done c =
    let f = rw (c.in-Ok-Done.is, c.in-Ok-Done.field-0-is) at c.fed.ensures in
    whole_decided c.args.kind c.args.bytes.now c.in-Ok-Done.taken f.0 f.1

pub returns-in-Ok-More : goal.returns-in-Ok-More
returns-in-Ok-More c =
    let f = rw (c.in-Ok-More.is, c.in-Ok-More.field-0-is) at c.fed.ensures in
    none_decided c.args.kind c.args.bytes.now (none_of_more c.args.kind c.args.bytes.now f.0 f.1)

pub returns-in-Err-Refused : goal.returns-in-Err-Refused
returns-in-Err-Refused c =
    let w = c.in-Err-Refused in
    let f = rw (w.is, w.field-0-is) at c.fed.ensures in
    none_decided c.args.kind c.args.bytes.now (none_of_refused c.args.kind c.args.bytes.now _ _ f.0 f.1)

pub unreachable-requires : goal.unreachable-requires
unreachable-requires c = (rw (c.in-Err-Ended.is, c.in-Err-Ended.field-0-is) at c.fed.ensures).1
