use Rattle.std.proofs.Common.{◌≡◌, ◌++◌, drop}
use Rattle.etcs_c.specs.FieldPlaces.{field_places}
use Rattle.etcs_c.proofs.places.field_places.Given as goal

abbrev pub invariant-loop-field : goal.invariant-loop-field
invariant-loop-field l = l.found.items ++ field_places (drop l.field-index l.fields) l.left ≡ field_places l.fields l.places
