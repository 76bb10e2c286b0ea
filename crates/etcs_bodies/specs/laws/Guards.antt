-- Lemmas about specs/Guards.antt.
use Rattle.std.proofs.Common.{◌≡◌, ℕ, Bool, true, false, Option, Some, None, refl}
use Rattle.std.specs.Option.{is_some}
use Rattle.etcs_vars.specs.declared.var.Var.{Var}
use Rattle.etcs_vars.specs.declared.fault.BuildFault.TheVariants.{Guard}
use Rattle.etcs_vars.specs.Faults.{number_fault}
use Rattle.etcs_tables.specs.declared.item.Test.{Test}
use Rattle.etcs_tables.specs.Layouts.{passes}
use Rattle.etcs_bodies.specs.Codecs.{IsGroup, IsOptional}
use Rattle.etcs_bodies.specs.Guards.{guard_fault, Group}

pub guard_ok : (v : Var) (wanted : Bool) → guard_fault v wanted wanted ≡ None
unfolding guard_fault
guard_ok v true = refl
guard_ok v false = refl

pub guard_missing : (v : Var) → guard_fault v true false ≡ Some (Guard v)
unfolding guard_fault
guard_missing v = refl

pub guard_spare : (v : Var) → guard_fault v false true ≡ Some (Guard v)
unfolding guard_fault
guard_spare v = refl

pub there : (v : Var) (b : Bool) → guard_fault v b true ≡ None → b ≡ true
unfolding guard_fault
there v true h = refl
there v false h = absurd cc

pub missing : (v : Var) (b : Bool) → guard_fault v b false ≡ None → b ≡ false
unfolding guard_fault
missing v true h = absurd cc
missing v false h = refl

pub group_is : {W : Type 0} (v : Var) (test : Test) (IsW : W → Type 0) (n : ℕ) (o : Option W) → number_fault v n ≡ None → guard_fault v (passes test n) (is_some o) ≡ None → IsOptional IsW o → IsGroup v test IsW (n, o)
group_is v test IsW n None ok guard is = (ok, missing v (passes test n) guard)
group_is v test IsW n (Some w) ok guard is = (ok, there v (passes test n) guard, is)

pub group_gives : {W : Type 0} (v : Var) (test : Test) (IsW : W → Type 0) (n : ℕ) (o : Option W) → IsGroup v test IsW (n, o) → Group v test IsW n o
unfolding guard_fault
group_gives v test IsW n None h = record { number = h.0; guard = rw h.1 refl; is = tt }
group_gives v test IsW n (Some w) h = record { number = h.0; guard = rw h.1 refl; is = h.2 }
