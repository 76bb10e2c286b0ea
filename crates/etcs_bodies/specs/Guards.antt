-- Groups after a number that is stored: the group must be there exactly if its guard holds (SUBSET-026, 7.4).
use Rattle.std.proofs.Common.{◌≡◌, ℕ, Bool, true, false, Option, Some, None}
use Rattle.std.specs.Option.{is_some}
use Rattle.etcs_vars.specs.declared.var.Var.{Var}
use Rattle.etcs_vars.specs.declared.fault.BuildFault.{BuildFault}
use Rattle.etcs_vars.specs.declared.fault.BuildFault.TheVariants.{Guard}
use Rattle.etcs_vars.specs.Faults.{number_fault}
use Rattle.etcs_tables.specs.declared.item.Test.{Test}
use Rattle.etcs_tables.specs.Layouts.{passes}
use Rattle.etcs_bodies.specs.Codecs.{IsOptional}

-- the fault of the guard's variable v if a group is missing although the guard holds (the first Bool), or is there (the
-- second) although it doesn't; else none
unfoldable pub guard_fault : Var → Bool → Bool → Option BuildFault
guard_fault v true true = None
guard_fault v true false = Some (Guard v)
guard_fault v false true = Some (Guard v)
guard_fault v false false = None

-- the fault of a group, if it is there
abbrev pub group_fault : {W : Type 0} → (W → Option BuildFault) → Option W → Option BuildFault
group_fault fault None = None
group_fault fault (Some w) = fault w

-- a number and a group after it are without fault: the number is admitted, and the group is there exactly if the guard
-- holds, and is a value
pub record Group {W : Type 0} (v : Var) (test : Test) (IsW : W → Type 0) (n : ℕ) (o : Option W) : Type 0 where
  pub number : number_fault v n ≡ None
  pub guard : guard_fault v (passes test n) (is_some o) ≡ None
  pub is : IsOptional IsW o
