use Rattle.std.proofs.Common.{◌++◌, ap, ◌∙◌}
use Rattle.etcs_vars.specs.Reading.{Reading}
use Rattle.etcs_tables.specs.Rows.{message_row_to}
use Rattle.etcs_blank.specs.Blanks.{blank_own, blank_packets}
use Rattle.etcs_blank.proofs.Lengths.{long_message, message_done, no_message}
use Rattle.etcs_blank.proofs.items.push_message.Goals as goal

pub returns-then-not-branch : goal.returns-then-not-branch
returns-then-not-branch c = long_message c.args.way c.in-Some.nid.now c.in-Some.nids.now c.args.nids.now c.in-Some.ensures.cases.0 (rw c.if-not-branch.true at c.in_ok-push_packets.ensures)

pub returns : goal.returns
returns c =
    let row = message_row_to c.args.way c.in-Some.nid.now in
    message_done c.push_closed.result c.args.way c.in-Some.nid.now c.in-Some.nids.now c.args.nids.now c.closes.result c.as_slice.result.now c.push_closed.new.pairs.items
    c.in-Some.ensures.cases.0
    (c.closes.ensures row c.message_row-row.ensures)
    (c.as_slice.ensures.value ∙ rw c.if-not-branch.false at c.in_ok-push_packets.ensures ∙ ap (λ (r : Reading). r ++ blank_packets c.args.way c.in-Some.nids.now) (c.in_ok-push_own.ensures row c.message_row-row.ensures ∙ ap (λ (r : Reading). r ++ blank_own c.args.way row) c.new-rest.ensures.items))
    c.push_closed.ensures

pub returns-in_default : goal.returns-in_default
returns-in_default c = c.requires ∙ no_message c.args.way c.args.nids.now c.in_default.ensures.cases
