use Rattle.etcs_flat.proofs.Equality.{other_exact}
use Rattle.etcs_flat.proofs.laws.exact_other.Goals as goal

pub returns : goal.returns
returns c = rw c.eq.ensures (other_exact c.args.first.now c.args.second.now)
