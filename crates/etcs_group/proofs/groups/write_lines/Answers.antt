use Rattle.std.proofs.Common.{arith}
use Rattle.etcs_group.proofs.Lines.{one_line_more}
use Rattle.etcs_group.proofs.groups.write_lines.Goals as goal

pub loop-group-preserved : goal.loop-group-preserved
loop-group-preserved c =
    one_line_more c.args.groups.now c.loop-group.group-index c.group-item.result c.args.page.now c.loop-group.page c.write_line.new.page (omega arith) c.group-item.is c.loop-group.invariant c.in_ok-write_line.ensures.ok
