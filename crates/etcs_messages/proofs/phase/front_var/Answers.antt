use Rattle.std.proofs.Common.{length, ◌∙◌}
use Rattle.etcs_messages.proofs.Fronts.{head_at, own_there, table_long}
use Rattle.etcs_messages.proofs.phase.front_var.Goals as goal

pub returns-then-at-count : goal.returns-then-at-count
returns-then-at-count c = λ vars typed.
    c.var_at.ensures ∙ head_at c.args.way c.args.nid c.args.at c.head_row-head.result.items.now vars c.if-at-count.true c.head_row-head.ensures typed

pub returns : goal.returns
returns c = λ vars typed.
    (let long = table_long c.args.way c.head_row-head.result.items.now c.head_row-head.ensures in
    c.var_at-2.ensures ∙ own_there c.args.way c.args.nid c.args.at (length c.head_row-head.result.items.now) c.in_ok-message_row.field-0.items.now vars long c.if-at-count.false c.in_ok-message_row.ensures typed)
