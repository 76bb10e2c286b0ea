-- How long the row of a packet is.
use Rattle.std.proofs.Common.{◌≡◌, ℕ, ◌-◌, [], Some, refl, arith}
use Rattle.etcs_vars.specs.Reading.{Reading}
use Rattle.etcs_tables.specs.Frames.{frame_bits}
use Rattle.etcs_rows.specs.Frames.{way_of}
use Rattle.etcs_rows.specs.declared.frames.Carrier.{Carrier}
use Rattle.etcs_tables.specs.Layouts.{Layout, Lengths}
use Rattle.etcs_tables.specs.Rows.{row_to}
use Rattle.etcs_sequence.specs.Contents.{AfterLength}
use Rattle.etcs_sequence.specs.laws.Turns.{row_body}

-- the row has a spelling of this many bits
pub row_lengths : (c : Carrier) (nid room l : ℕ) (row : Layout) → row_to (way_of c) nid ≡ Some row → ((r : Reading) × AfterLength c nid room l r) → Lengths row [] (l - frame_bits (way_of c))
row_lengths c nid room l row typed (r, (least, most, le, (q, rest, e, b, run))) =
    let q' = row_body (way_of c) nid (l - frame_bits (way_of c)) row q typed b in
    ([], q, q'.0, refl, q'.1, omega (arith, most))
