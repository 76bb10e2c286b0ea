use Rattle.std.proofs.Common.{◌<◌, refl, arith}
use Rattle.std.proofs.lemmas.Result.{err_from_is_err_and}
use Rattle.etcs_text.specs.Entries.{entry_value}
use Rattle.etcs_stream.specs.Taking.{item_line}
use Rattle.etcs_stream.proofs.Saying.{says_here}
use Rattle.etcs_stream.proofs.json_lines.JsonLines.handle.Goals as goal

pub returns-in-Ok-clause-ok : goal.returns-in-Ok-clause-ok
returns-in-Ok-clause-ok c =
    let room : c.args.self.now.printer.count < 1000000 = omega (arith, c.requires.reported, c.if-count-eq-MOST_ITEMS.false, c.count.ensures) in
    let printed = c.in-Ok.ensures.ok in
    item_line (entry_value c.in_ok-entry.entry) printed.0 c.in_ok-entry.ensures.ok room printed.1 printed.2

pub returns-then-count-eq-MOST_ITEMS-clause-said : goal.returns-then-count-eq-MOST_ITEMS-clause-said
returns-then-count-eq-MOST_ITEMS-clause-said c =
    let s = c.args.self.now in
    says_here s.job.command s.printer s.printer _ _ refl (omega arith)

pub returns-in_err-entry-clause-said : goal.returns-in_err-entry-clause-said
returns-in_err-entry-clause-said c =
    let s = c.args.self.now in
    let p = err_from_is_err_and c.from_residual.result c.from_residual.ensures.1 in
    rw p.1 (says_here s.job.command s.printer s.printer _ _ refl (omega arith))

pub returns-in-Err-clause-said : goal.returns-in-Err-clause-said
returns-in-Err-clause-said c =
    let s = c.args.self.now in
    says_here s.job.command s.printer c.print.new.self _ _ c.in-Err.ensures.err (omega (arith, c.print.ensures.count))
