use Rattle.etcs_reader.proofs.Passing.{feeds_after}
use Rattle.etcs_reader.proofs.laws.fed_from.Goals as goal

pub returns : goal.returns
returns g c = feeds_after g.R.Rest.left g.met.R.Rest.regular g.R.Rest.next g.R.Rest.follows g.met.R.Rest.residual g.met.R.Rest.both g.R.Rest.fails
