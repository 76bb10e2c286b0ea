use Rattle.std.proofs.Common.{◌∙◌, refl, sym, arith}
use Rattle.etcs_text.specs.Readers.{seen_bits}
use Rattle.etcs_stream.proofs.HexSteps.{Advances-empty}
use Rattle.etcs_stream.proofs.Saying.{says_here}
use Rattle.etcs_stream.proofs.hex_lines.HexLines.handle.Goals as goal

pub returns-then-is_empty-clause-ok : goal.returns-then-is_empty-clause-ok
returns-then-is_empty-clause-ok c =
    let i = c.args.self.now.items in
    Advances-empty i.job.kind i.job.command (seen_bits i.reader.progress) i.printer c.args.page.now c.args.line.now (sym c.is_empty.ensures ∙ c.if-is_empty.true)

pub returns-in-Err-clause-said : goal.returns-in-Err-clause-said
returns-in-Err-clause-said c =
    let i = c.args.self.now.items in
    says_here i.job.command i.printer i.printer _ _ refl (omega arith)
