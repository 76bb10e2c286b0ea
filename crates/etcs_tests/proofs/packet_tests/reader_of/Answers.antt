use Rattle.std.proofs.Common.{lit≤, refl}
use Rattle.etcs_tables.specs.declared.row.Way.TheVariants.{ToTrain}
use Rattle.etcs_rows.specs.declared.frames.Carrier.TheVariants.{Message}
use Rattle.etcs_sequence.proofs.Fits.{run_some}
use Rattle.etcs_tests.proofs.packet_tests.reader_of.Goals as goal

pub new-requires : goal.new-requires
new-requires g c = let some = run_some (Message ToTrain) 136 (lit≤ tt) refl in (some.0, (c.new-rest.ensures.left some.0).1 some.1)
