use Rattle.etcs_telegram.proofs.Equality.{telegram_exact}
use Rattle.etcs_telegram.proofs.laws.exact_equality.Goals as goal

pub returns : goal.returns
returns c = rw c.eq.ensures (telegram_exact c.args.first.now c.args.second.now)
