use Rattle.etcs_rows.proofs.RowLaws.{places_stand, places_measure}
use Rattle.etcs_rows.proofs.laws.places.Goals as goal

pub returns-clause-readings : goal.returns-clause-readings
returns-clause-readings c = places_stand

pub returns-clause-lengths : goal.returns-clause-lengths
returns-clause-lengths c = places_measure
