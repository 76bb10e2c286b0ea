use Rattle.etcs_telegram.proofs.Viewing.{one_refusal}
use Rattle.etcs_telegram.proofs.laws.one_refusal.Goals as goal

pub returns : goal.returns
returns c = one_refusal
