use Rattle.etcs_group.proofs.Lines.{line_of, on_ok_then}
use Rattle.etcs_group.proofs.groups.Group.write_line.Goals as goal

pub returns-clause-ok : goal.returns-clause-ok
returns-clause-ok c =
    on_ok_then c.put.result
    (line_of c.args.self.now c.args.page.now c.write_number.new.page c.write_number-2.new.page c.write_state.new.page c.write_clashes.new.page c.put.new.self c.in_ok-write_number.ensures.ok c.in_ok-write_number-2.ensures.ok c.in_ok-write_state.ensures.ok c.in_ok-write_clashes.ensures.ok)
    c.put.ensures.ok
