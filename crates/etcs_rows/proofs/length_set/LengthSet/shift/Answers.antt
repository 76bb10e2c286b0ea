use Rattle.etcs_rows.specs.Sets.{In}
use Rattle.etcs_rows.proofs.Additions.{shift_holds}
use Rattle.etcs_rows.proofs.length_set.LengthSet.shift.Goals as goal

pub returns : goal.returns
unfolding In
returns c = shift_holds c.args.self.now.words c.add_shifted.new.sums c.args.by c.add_shifted.ensures
