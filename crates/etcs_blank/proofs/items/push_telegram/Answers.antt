use Rattle.std.proofs.Common.{◌<◌, ◌++◌, length, sym, ap, subst, ◌∙◌}
use Rattle.etcs_vars.specs.Reading.{Reading, spelled}
use Rattle.etcs_tables.specs.Layouts.{layout}
use Rattle.etcs_blank.specs.Blanks.{blank_row, filled}
use Rattle.etcs_blank.proofs.Lengths.{long_filled, long_packets, front_is, filled_is}
use Rattle.etcs_blank.proofs.items.push_telegram.Goals as goal

pub returns-then-not-branch : goal.returns-then-not-branch
returns-then-not-branch c = long_packets c.args.user c.args.pad c.args.nids.now (rw c.if-not-branch.true at c.in_ok-push_packets.ensures)

pub returns-in_default : goal.returns-in_default
returns-in_default c =
    let front = front_is c.args.nids.now c.header_row.result.items.now c.push_row.new.pairs.items c.push_packets.new.pairs.items c.push.new.self.items c.header_row.ensures (c.in_ok-push_row.ensures ∙ ap (λ (r : Reading). r ++ blank_row (layout c.header_row.result.items.now) 0) c.requires) (rw c.if-not-branch.false at c.in_ok-push_packets.ensures) c.in_ok-push.ensures.items in
    subst (λ (r : Reading). 8184 < length (spelled (filled c.args.user c.args.pad r))) front
    (long_filled c.args.user c.args.pad c.push.new.self.items (subst (λ (r : Reading). 8184 < length (spelled r)) c.as_slice.ensures.value c.in_default.ensures.bits))

pub returns : goal.returns
returns c =
    let front = front_is c.args.nids.now c.header_row.result.items.now c.push_row.new.pairs.items c.push_packets.new.pairs.items c.push.new.self.items c.header_row.ensures (c.in_ok-push_row.ensures ∙ ap (λ (r : Reading). r ++ blank_row (layout c.header_row.result.items.now) 0) c.requires) (rw c.if-not-branch.false at c.in_ok-push_packets.ensures) c.in_ok-push.ensures.items in
    filled_is c.args.user c.args.pad c.in-Some.bits c.saturating_sub.result c.push.new.self.items c.push_bits.new.pairs.items c.push_bits-2.new.pairs.items (ap (λ (r : Reading). length (spelled r)) (sym c.as_slice.ensures.value) ∙ c.in-Some.ensures.bits) c.saturating_sub.ensures c.in_ok-push_bits.ensures c.in_ok-push_bits-2.ensures ∙ ap (filled c.args.user c.args.pad) front
