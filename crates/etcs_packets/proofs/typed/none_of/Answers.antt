use Rattle.etcs_packets.specs.laws.Outcomes.{unframed}
use Rattle.etcs_packets.proofs.typed.none_of.Goals as goal

pub returns : goal.returns
returns g c = λ dir. record { made = tt; some = tt; none = λ n h. unframed c.args.way c.args.nid dir h.0 c.requires h.1 }
