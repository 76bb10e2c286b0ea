use Rattle.std.proofs.Common.{Err, sym, ap, subst}
use Rattle.etcs_group.specs.Messages.{IsGroupMessage}
use Rattle.etcs_stream.proofs.Answering.{on_ok_then, whole_lines, lacking_lines}
use Rattle.etcs_stream.proofs.group_lines.write_last.Goals as goal

pub returns-in-Ok-clause-ok : goal.returns-in-Ok-clause-ok
returns-in-Ok-clause-ok c =
    let held = c.args.assembly.now in
    let whole = c.in-Ok.ensures.ok in
    let message = subst (λ ps. IsGroupMessage held ps) (sym c.as_slice.ensures.value) whole.1 in
    on_ok_then c.write_complete.result (whole_lines held c.in-Some.country c.in-Some.group c.in-Some.ensures.held c.in-Some.ensures.group c.as_slice.result.now c.args.page.now c.write_group.new.page c.write_complete.new.page whole.0 message c.in_ok-write_group.ensures.ok) c.write_complete.ensures.ok

pub returns-in-Err-NotWhole-clause-ok : goal.returns-in-Err-NotWhole-clause-ok
returns-in-Err-NotWhole-clause-ok c =
    let held = c.args.assembly.now in
    on_ok_then c.write_lacking.result (lacking_lines held c.in-Some.country c.in-Some.group c.in-Some.ensures.held c.in-Some.ensures.group c.missing.result c.args.page.now c.write_group.new.page c.write_lacking.new.page (c.in-Err-NotWhole.ensures.not_whole.0 (ap Err c.in-Err-NotWhole.field-0-is)) c.missing.ensures c.in_ok-write_group.ensures.ok) c.write_lacking.ensures.ok
