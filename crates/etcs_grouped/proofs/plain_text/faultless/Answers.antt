use Rattle.std.proofs.Common.{rules}
use Rattle.etcs_grouped.proofs.PlainTexts.{bytes_ok}
use Rattle.etcs_grouped.proofs.plain_text.faultless.Goals as goal

pub returns-clause-ok : goal.returns-clause-ok
returns-clause-ok c = let text = bytes_ok c.args.text.now (λ k. (c.type_inv.text k).fits) in search rules
