-- Packets that are kept as bits, and what is wrong with one (SUBSET-026, 7.4).
use Rattle.std.specs.Prelude.{ℕ, Bool, List, Option, Some, None, if◌then◌else◌, nat_le}
use Rattle.etcs_vars.specs.declared.var.Var.TheVariants.{NID_PACKET, Q_DIR}
use Rattle.etcs_vars.specs.declared.fault.BuildFault.{BuildFault}
use Rattle.etcs_vars.specs.declared.fault.BuildFault.TheVariants.{NotAdmitted, TooLong}
use Rattle.etcs_vars.specs.Faults.{◌or_else◌}
use Rattle.etcs_tables.specs.declared.row.Way.{Way}
use Rattle.etcs_tables.specs.Frames.{is_kept, is_direction, kept_limit}
pub use Rattle.etcs_flat.specs.declared.other.Other.TheInside.{Inside as Other}

-- the kept packet of this number, direction and bits
abbrev pub other_value : ℕ → ℕ → List Bool → Other
other_value nid dir body = record { nid = nid; dir = dir; body = body }

-- Q_DIR, if a packet of this way may not have the direction
abbrev pub direction_fault : Way → ℕ → Option BuildFault
direction_fault way dir = if is_direction way dir then None else Some (NotAdmitted Q_DIR)

-- the first fault of a kept packet of this number, direction and count of bits after L_PACKET: a number that isn't
-- kept, the direction, more bits than kept_limit
abbrev pub other_fault : Way → ℕ → ℕ → ℕ → Option BuildFault
other_fault way nid dir bits = (if is_kept way nid then None else Some (NotAdmitted NID_PACKET)) or_else direction_fault way dir or_else (if nat_le bits (kept_limit way) then None else Some TooLong)
