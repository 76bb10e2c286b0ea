-- A packet that is kept as bits has no more than L_PACKET counts.
use Rattle.std.proofs.Common.{◌≡◌, ℕ, ◌≤◌, None, Some, arith}
use Rattle.std.specs.Prelude.{if◌then◌else◌, nat_le}
use Rattle.std.proofs.lemmas.Bool.Decides.{nat_tests}
use Rattle.etcs_vars.specs.declared.var.Var.TheVariants.{NID_PACKET}
use Rattle.etcs_vars.specs.declared.fault.BuildFault.TheVariants.{NotAdmitted, TooLong}
use Rattle.etcs_vars.specs.Faults.{◌or_else◌}
use Rattle.etcs_tables.specs.declared.row.Way.{Way}
use Rattle.etcs_tables.specs.Frames.{is_kept, kept_limit}
use Rattle.etcs_flat.specs.laws.FlatLaws.{none_both}
use Rattle.etcs_flat.specs.Others.{direction_fault, other_fault}

fits : (bits most : ℕ) → (if nat_le bits most then None else Some TooLong) ≡ None → bits ≤ most
fits bits most e = grind (arith, nat_tests)

pub other_short : (way : Way) (nid dir bits : ℕ) → other_fault way nid dir bits ≡ None → bits ≤ kept_limit way
other_short way nid dir bits fine =
    let long = if nat_le bits (kept_limit way) then None else Some TooLong in
    let others = (none_both (if is_kept way nid then None else Some (NotAdmitted NID_PACKET)) (direction_fault way dir or_else long) fine).1 in
    fits bits (kept_limit way) (none_both (direction_fault way dir) long others).1
