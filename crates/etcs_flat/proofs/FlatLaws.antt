-- Further lemmas beside specs/laws/FlatLaws.antt.
use Rattle.std.proofs.Common.{◌≡◌, ℕ, ◌≤◌, List, length, None, arith}
use Rattle.etcs_tables.specs.declared.row.Way.{Way}
use Rattle.etcs_flat.specs.Flats.{flat_row_to, flat_fault_to}
use Rattle.etcs_flat.specs.laws.FlatLaws.{row_short, nothing_wrong}

-- ---- What nothing is wrong with.

pub flat_short : (way : Way) (nid dir : ℕ) (ns : List ℕ) → flat_fault_to way nid dir ns ≡ None → length ns ≤ 6
flat_short way nid dir ns fine =
    let x = nothing_wrong way (flat_row_to way nid) dir ns fine in
    omega (arith, x.2, row_short way nid x.0 x.1)
