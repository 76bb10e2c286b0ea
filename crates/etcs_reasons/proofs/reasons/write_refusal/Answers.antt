use Rattle.etcs_rows.proofs.WordLaws.{words_some}
use Rattle.etcs_reasons.proofs.reasons.write_refusal.Goals as goal

pub returns : goal.returns
returns c = c.write.ensures.some (words_some c.args.refusal.now)
