-- How long names are.
use Rattle.std.proofs.Common.{◌≤◌, length, arith}
use Rattle.etcs_vars.specs.declared.var.Var.{Var}
use Rattle.etcs_vars.specs.declared.var.Var.TheVariants.{Q_UPDOWN}
use Rattle.etcs_vars.specs.Vars.{name}

-- a name leaves a zero of 32 bytes
pub name_short : (x : Var) → length (name x) ≤ 31
name_short Q_UPDOWN = omega arith
name_short v = omega arith
