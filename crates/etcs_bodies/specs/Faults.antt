-- The fault of a count (SUBSET-026, 7.5: the numbers that N_ITER and its like admit).
use Rattle.std.specs.Prelude.{ℕ, Option, Some, None, if◌then◌else◌}
use Rattle.etcs_vars.specs.declared.var.Var.{Var}
use Rattle.etcs_vars.specs.Vars.{admits}
use Rattle.etcs_vars.specs.declared.fault.BuildFault.{BuildFault}
use Rattle.etcs_vars.specs.declared.fault.BuildFault.TheVariants.{TooMany}

-- the fault of a count n of a list: TooMany if the variable of the count doesn't admit it, else none
unfoldable pub count_fault : Var → ℕ → Option BuildFault
count_fault v n = if admits v n then None else Some (TooMany v)
