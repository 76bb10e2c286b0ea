use Rattle.std.proofs.Common.{◌∙◌, Err, ap}
use Rattle.etcs_text.proofs.Refusals.{telegram_refused}
use Rattle.etcs_text.proofs.refused.telegram_refused_at.Goals as goal

pub returns-in-Err-Refused : goal.returns-in-Err-Refused
returns-in-Err-Refused c =
    let bit = c.in-Err-Refused.bit in
    let var = c.in-Err-Refused.var in
    telegram_refused c.args.size c.args.bytes.now _ bit var (c.new.ensures.refused bit var (c.in-Err-Refused.is ∙ ap Err c.in-Err-Refused.field-0-is))
