-- The walk over the variables of an item, outside of rows, as a function.
use Rattle.std.specs.Prelude.{◌+◌, List, [], ◌∷◌, if◌then◌else◌}
use Rattle.etcs_vars.specs.declared.var.Var.{Var}
use Rattle.etcs_vars.specs.Reading.{Sent, Reading}
use Rattle.etcs_tables.specs.declared.row.Way.{Way}
use Rattle.etcs_tables.specs.Rows.{row_to}
use Rattle.etcs_places.specs.declared.place.Place.{Place}
use Rattle.etcs_places.specs.declared.walk.Here.{Here}
use Rattle.etcs_places.specs.Places.{outside, in_packet}
use Rattle.etcs_places.specs.Walks.{opens, closes, is_length, places_by}

-- before the first variable
abbrev pub start : Here
start = record { packets = 0; nid = 0; at = outside }

-- at the next variable
abbrev pub step : Here → Sent → Here
step h p = if opens p.0 then record { packets = h.packets + 1; nid = p.1; at = in_packet (h.packets + 1) } else (if closes p.0 then record h { at = outside } else h)

-- the places of the row that follows this variable, if one does
abbrev pub body_places : Way → Here → Var → Reading → List Place
body_places way h v r = if is_length v then places_by (row_to way h.nid) h.at r else []

-- the places of the variables r: first those that a row has given already
unfoldable pub scan : Way → Here → List Place → Reading → List Place
scan way h q [] = []
scan way h [] (p ∷ r) = (step h p).at ∷ scan way (step h p) (body_places way (step h p) p.0 r) r
scan way h (x ∷ q) (p ∷ r) = x ∷ scan way h q r
