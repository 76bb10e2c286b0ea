-- A number without a row has no typed packets.
use Rattle.std.proofs.Common.{◌≡◌, ℕ, Option, None, Some, sym, ◌∙◌}
use Rattle.etcs_vars.specs.Reading.{Reading}
use Rattle.etcs_tables.specs.declared.row.Way.{Way}
use Rattle.etcs_tables.specs.Layouts.{Layout}
use Rattle.etcs_tables.specs.Rows.{row_to}
use Rattle.etcs_tables.specs.Typed.{IsFramed}

rowless : (o : Option Layout) (row : Layout) → o ≡ None → o ≡ Some row → ⊥
rowless o row none some = let bad : ◌≡◌ {A = Option Layout} (Some row) None = sym some ∙ none in absurd cc

pub unframed : (way : Way) (nid dir : ℕ) (r : Reading) → row_to way nid ≡ None → IsFramed way nid dir r → ⊥
unframed way nid dir r none h = rowless (row_to way nid) h.0 none h.1
