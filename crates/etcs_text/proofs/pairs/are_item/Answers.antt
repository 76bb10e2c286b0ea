use Rattle.etcs_bits.specs.Bits.{bits}
use Rattle.etcs_text.proofs.Written.{none_decided, same_pairs, whole_decided}
use Rattle.etcs_text.proofs.pairs.are_item.Goals as goal

pub returns-in-Whole : goal.returns-in-Whole
returns-in-Whole c =
    let p = c.in_ok-account.account.fields.items in
    let o = rw c.in-Whole.is at c.in_ok-account.ensures.outcome in
    whole_decided c.args.kind c.args.pairs.now p (bits c.args.bytes.now) c.requires o c.eq.result (same_pairs c.eq.result c.as_slice.result.now c.args.pairs.now p c.eq.ensures c.as_slice.ensures.value)

pub returns-in-Open : goal.returns-in-Open
returns-in-Open c =
    let o = rw c.in-Open.is at c.in_ok-account.ensures.outcome in
    none_decided c.args.kind c.args.pairs.now (bits c.args.bytes.now) c.requires o.0

pub returns : goal.returns
returns c =
    let o = rw c.in-Refused.is at c.in_ok-account.ensures.outcome in
    none_decided c.args.kind c.args.pairs.now (bits c.args.bytes.now) c.requires o.0.0
