-- Numbers and directions of packets, by their way.
use Rattle.std.proofs.Common.{◌≡◌, ℕ, ◌<◌, ◌^◌, Bool, true, false, None, Some, refl, arith}
use Rattle.std.specs.Prelude.{IsTrue, if◌then◌else◌, nat_le, nat_lt, not, is_some}
use Rattle.std.specs.List.{list_all}
use Rattle.std.proofs.lemmas.Bool.{and_parts, ltb-true}
use Rattle.etcs_vars.specs.declared.var.Var.TheVariants.{NID_PACKET, NID_VBCMK, Q_DIR}
use Rattle.etcs_vars.specs.declared.fault.BuildFault.{BuildFault}
use Rattle.etcs_vars.specs.declared.fault.BuildFault.TheVariants.{NotAdmitted, TooLong}
use Rattle.etcs_vars.specs.Faults.{◌or_else◌}
use Rattle.etcs_vars.proofs.Prefixes.{admits_parts}
use Rattle.etcs_tables.specs.declared.row.Way.{Way}
use Rattle.etcs_tables.specs.declared.row.Way.TheVariants.{ToTrain, ToTrack}
use Rattle.etcs_tables.specs.Layouts.{Layout}
use Rattle.etcs_tables.specs.Rows.{row_to, rows_to}
use Rattle.etcs_tables.specs.Frames.{is_framed, is_kept, is_marker, is_direction, kept_limit}
use Rattle.etcs_tables.proofs.EachRow.{of_each}
use Rattle.etcs_flat.specs.laws.FlatLaws.{none_both}
use Rattle.etcs_flat.specs.Others.{other_fault, direction_fault}

-- ---- Numbers.

-- every row's number has a frame
each_framed : (way : Way) → list_all (λ p. is_framed way p.0) (rows_to way) ≡ true
each_framed ToTrain = refl
each_framed ToTrack = refl

pub typed_framed : (way : Way) (nid : ℕ) (row : Layout) → row_to way nid ≡ Some row → IsTrue (is_framed way nid)
typed_framed way nid row e = of_each (λ n r. is_framed way n) (rows_to way) nid row (each_framed way) e

pub framed_small : (way : Way) (nid : ℕ) → IsTrue (is_framed way nid) → nid < 2 ^ 8
framed_small ToTrain nid h = omega (arith, ltb-true nid 255 (and_parts (nat_lt 0 nid) (nat_lt nid 255) h).1)
framed_small ToTrack nid h = ltb-true nid 256 h

pub marker_small : (way : Way) (n : ℕ) → IsTrue (is_marker way n) → n < 2 ^ 6
marker_small ToTrain n h = (admits_parts NID_VBCMK n h).1
marker_small ToTrack n h = absurd cc

-- ---- Packets that are kept as bits.

by_test : (b : Bool) (e : BuildFault) → (if b then None else Some e) ≡ None → IsTrue b
by_test true e h = refl
by_test false e h = absurd cc

-- such a packet has a number that isn't typed, and a direction of its way
pub kept_parts : (way : Way) (nid dir bits : ℕ) → other_fault way nid dir bits ≡ None → IsTrue (is_kept way nid) × IsTrue (is_direction way dir)
kept_parts way nid dir bits fine =
    let first = if is_kept way nid then None else Some (NotAdmitted NID_PACKET) in
    let long = if nat_le bits (kept_limit way) then None else Some TooLong in
    let both = none_both first (direction_fault way dir or_else long) fine in
    let two = none_both (direction_fault way dir) long both.1 in
    (by_test (is_kept way nid) (NotAdmitted NID_PACKET) both.0, by_test (is_direction way dir) (NotAdmitted Q_DIR) two.0)

kept_both : (way : Way) (nid : ℕ) → IsTrue (is_kept way nid) → IsTrue (is_framed way nid) × IsTrue (not (is_some (row_to way nid)))
kept_both way nid kept = and_parts (is_framed way nid) (not (is_some (row_to way nid))) kept

pub kept_framed : (way : Way) (nid : ℕ) → IsTrue (is_kept way nid) → IsTrue (is_framed way nid)
kept_framed way nid kept = (kept_both way nid kept).0
