-- Packets that are kept as bits.
use Rattle.std.proofs.Common.{◌≡◌, ℕ, ◌≤◌, ◌<◌, Bool, true, false, None, Some, refl}
use Rattle.std.specs.Prelude.{IsTrue, if◌then◌else◌, nat_le, not, is_some}
use Rattle.std.proofs.lemmas.Bool.{le-leb}
use Rattle.etcs_vars.specs.declared.var.Var.TheVariants.{NID_PACKET, Q_DIR}
use Rattle.etcs_vars.specs.declared.fault.BuildFault.{BuildFault}
use Rattle.etcs_vars.specs.declared.fault.BuildFault.TheVariants.{NotAdmitted, TooLong}
use Rattle.etcs_vars.specs.Faults.{◌or_else◌}
use Rattle.etcs_tables.specs.declared.row.Way.TheVariants.{ToTrain}
use Rattle.etcs_tables.specs.Layouts.{Layout}
use Rattle.etcs_tables.specs.Rows.{row_to}
use Rattle.etcs_tables.specs.Frames.{is_kept, kept_limit, is_framed, is_direction}
use Rattle.etcs_tables.specs.declared.row.Way.{Way}
use Rattle.etcs_rows.proofs.PlaceLemmas.{and_both}
use Rattle.etcs_flat.specs.laws.FlatLaws.{none_both}
use Rattle.etcs_flat.specs.Others.{other_fault, direction_fault}
use Rattle.etcs_flat.specs.laws.OtherLaws.{other_short}
use Rattle.etcs_sequence.specs.laws.Framed.{framed_parts}

by_test : (b : Bool) (e : BuildFault) → (if b then None else Some e) ≡ None → IsTrue b
by_test true e h = refl
by_test false e h = absurd cc

direction_fine : (way : Way) (dir : ℕ) → direction_fault way dir ≡ None → IsTrue (is_direction way dir)
direction_fine way dir h = by_test (is_direction way dir) (NotAdmitted Q_DIR) h

fine_direction : (way : Way) (dir : ℕ) → IsTrue (is_direction way dir) → direction_fault way dir ≡ None
fine_direction way dir h = rw h refl

pub kept_parts : (way : Way) (nid dir bits : ℕ) → other_fault way nid dir bits ≡ None → IsTrue (is_kept way nid) × IsTrue (is_direction way dir) × (bits ≤ kept_limit way)
kept_parts way nid dir bits fine =
    let first = if is_kept way nid then None else Some (NotAdmitted NID_PACKET) in
    let long = if nat_le bits (kept_limit way) then None else Some TooLong in
    let both = none_both first (direction_fault way dir or_else long) fine in
    let two = none_both (direction_fault way dir) long both.1 in
    (by_test (is_kept way nid) (NotAdmitted NID_PACKET) both.0, direction_fine way dir two.0, other_short way nid dir bits fine)

pub kept_fault : (way : Way) (nid dir bits : ℕ) → IsTrue (is_kept way nid) → IsTrue (is_direction way dir) → bits ≤ kept_limit way → other_fault way nid dir bits ≡ None
kept_fault way nid dir bits kept a le = rw (kept, fine_direction way dir a, le-leb bits (kept_limit way) le) refl

pub kept_framed : (way : Way) (nid : ℕ) → IsTrue (is_kept way nid) → IsTrue (is_framed way nid)
kept_framed way nid kept = (and_both (is_framed way nid) (not (is_some (row_to way nid))) kept).0

pub kept_number : (nid : ℕ) → IsTrue (is_kept ToTrain nid) → (0 < nid) × (nid < 255)
kept_number nid kept = framed_parts nid (kept_framed ToTrain nid kept)

pub kept_untyped : (way : Way) (nid : ℕ) (row : Layout) → IsTrue (is_kept way nid) → row_to way nid ≡ Some row → ⊥
kept_untyped way nid row kept e =
    let third = (and_both (is_framed way nid) (not (is_some (row_to way nid))) kept).1 in
    let no = rw e at third in
    absurd cc
