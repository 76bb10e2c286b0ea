use Rattle.std.proofs.Common.{ℕ, sym, subst, arith}
use Rattle.etcs_bits.specs.Bits.{bits}
use Rattle.etcs_vars.specs.Walking.{Refuses}
use Rattle.etcs_reader.proofs.Leaping.{all_by}
use Rattle.etcs_rows.proofs.RefusalLemmas.{takes_unrefused}
use Rattle.etcs_rows.proofs.refused.refusal_in.Goals as goal

pub new-feeder-requires : goal.new-feeder-requires
new-feeder-requires g c = c.requires.goes

pub feed-requires : goal.feed-requires
feed-requires g c = omega (arith, c.new-feeder.ensures.count, c.requires.short)

pub refusal_of-requires-clause-fed : goal.refusal_of-requires-clause-fed
refusal_of-requires-clause-fed g c =
    let n = c.new-feeder in
    let all = all_by n.result c.args.rest n.ensures.rest n.ensures.part n.ensures.count n.ensures.stop in
    (c.args.rest, rw (c.in-Err-Refused.field-0-is, all) at (c.in-Err-Refused.ensures.going n.ensures.stop))

pub refusal_of-requires-clause-at : goal.refusal_of-requires-clause-at
refusal_of-requires-clause-at g c =
    let (stop, count, n, is, h) = rw c.in-Err-Refused.field-0-is at (c.in-Err-Refused.ensures.going c.new-feeder.ensures.stop) in
    c.here-here.ensures.at c.in-Err-Refused.var (rw c.rest.ensures h.here)

pub refusal_of-requires-clause-here : goal.refusal_of-requires-clause-here
refusal_of-requires-clause-here g c =
    let (stop, count, n, is, h) = rw c.in-Err-Refused.field-0-is at (c.in-Err-Refused.ensures.going c.new-feeder.ensures.stop) in
    let exact = c.here-here.ensures.exactly c.in-Err-Refused.var (rw c.rest.ensures h.here) (rw c.rest.ensures h.goes) in
    rw c.rest.ensures at exact

pub returns-in-Ok : goal.returns-in-Ok
returns-in-Ok g c =
    let R = g.R.Rest in
    let n = c.new-feeder in
    let all = all_by n.result c.args.rest n.ensures.rest n.ensures.part n.ensures.count n.ensures.stop in
    let (stop, count, h) = rw all at (c.in-Ok.ensures.going n.ensures.stop) in
    takes_unrefused R.left g.met.R.Rest.regular R.next R.follows c.args.rest c.feed.new.self.rest (bits c.args.bytes.now) c.feed.new.self.part c.in-Ok.field-0 h

pub returns-in-Err-Refused : goal.returns-in-Err-Refused
returns-in-Err-Refused g c =
    let R = g.R.Rest in
    let n = c.new-feeder in
    let xs = bits c.args.bytes.now in
    let all = all_by n.result c.args.rest n.ensures.rest n.ensures.part n.ensures.count n.ensures.stop in
    let fed = rw (c.in-Err-Refused.field-0-is, all) at (c.in-Err-Refused.ensures.going n.ensures.stop) in
    let (stop, count, k, is, h) = fed in
    let t = c.refusal_of.ensures in
    let refuses = subst (λ (i : ℕ). Refuses (R.left c.args.rest) xs i c.in-Err-Refused.var) (sym is) h.refuses in
    (rw (t.bit, t.var) refuses, t.explains c.args.rest fed)
