use Rattle.etcs_bits.specs.Bits.{bits}
use Rattle.etcs_vars.specs.Reading.{readings_of}
use Rattle.etcs_reader.proofs.Leaping.{all_by}
use Rattle.etcs_text.proofs.Accounting.{far_accounts, far_held, far_long}
use Rattle.etcs_text.proofs.account.account_of.Goals as goal

pub fields_of-requires : goal.fields_of-requires
fields_of-requires g c =
    let R = g.R.Rest in
    let I = g.R.ItemRest in
    let size = c.args.size in
    let start = c.begin.result in
    let none = c.begin.ensures.holds in
    let n = c.new-feeder in
    let all = all_by n.result start n.ensures.rest n.ensures.part n.ensures.count n.ensures.stop in
    let taken = c.in_ok-end.ensures start (bits c.args.bytes.now) (rw all at (c.feed-fed.ensures.going n.ensures.stop)) in
    record {
      goes = taken.goes;
      holds = (size, far_held R.left R.follows (I.holds size) I.far (g.met.R.Traced.held size) (g.met.R.Traced.far_is size) start none (bits c.args.bytes.now) c.in_ok-end.end c.feed-fed.new.self taken);
      taken = far_long R.left R.follows (I.holds size) I.far (g.met.R.Traced.held size) (g.met.R.Traced.far_is size) start none (bits c.args.bytes.now) c.in_ok-end.end c.feed-fed.new.self taken;
    }

pub returns : goal.returns
returns g c =
    let R = g.R.Rest in
    let I = g.R.ItemRest in
    let size = c.args.size in
    let start = c.begin.result in
    let none = c.begin.ensures.holds in
    let n = c.new-feeder in
    let all = all_by n.result start n.ensures.rest n.ensures.part n.ensures.count n.ensures.stop in
    let taken = c.in_ok-end.ensures start (bits c.args.bytes.now) (rw all at (c.feed-fed.ensures.going n.ensures.stop)) in
    rw c.in_ok-fields.ensures (far_accounts R.left R.follows (I.holds size) I.far (g.met.R.Traced.held size) (g.met.R.Traced.far_is size) start none (bits c.args.bytes.now) c.in_ok-end.end c.feed-fed.new.self taken (readings_of (I.Reads size)) c.begin.ensures.left)
