use Rattle.std.proofs.Common.{◌∙◌, ap, not}
use Rattle.std.proofs.lemmas.Bool.{iff_false}
use Rattle.etcs_group.proofs.Positions.{some_from}
use Rattle.etcs_group.proofs.Lines.{lacking_state, on_ok_then}
use Rattle.etcs_group.proofs.states.write_state.Goals as goal

pub returns-clause-ok : goal.returns-clause-ok
returns-clause-ok c =
    let some = some_from c.first_held.result c.first_held.ensures.some (c.is_none.ensures ∙ ap not c.if-is_none.false) in
    on_ok_then c.write_positions.result (lacking_state c.args.assembly.now c.args.page.now c.put-2.new.self c.write_positions.new.page c.missing.result (iff_false c.is_complete.ensures c.if-is_complete.false) (some.0.now, some.1) c.missing.ensures c.in_ok-put.ensures.ok) c.write_positions.ensures.ok
