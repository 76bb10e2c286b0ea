-- A speed for some trains, an entry of packet 27 (SUBSET-026, 7.4.2).
use Rattle.std.proofs.Common.{ℕ, Bool, Option}
use Rattle.std.specs.Prelude.{◌==◌, if◌then◌else◌}
use Rattle.etcs_vars.specs.declared.var.Var.{Var}
use Rattle.etcs_vars.specs.declared.var.Var.TheVariants.{Q_DIFF, NC_CDDIFF, NC_DIFF, V_DIFF}
use Rattle.etcs_vars.specs.declared.fault.BuildFault.{BuildFault}
use Rattle.etcs_tables.specs.declared.item.Test.TheVariants.{IsZero, IsOneOrTwo}
use Rattle.etcs_tables.specs.Layouts.{Layout}
use Rattle.etcs_bodies.specs.Formats.{Format, number, ◌⊗◌, choice, named, fault, row}
pub use Rattle.etcs_parts.specs.declared.differing.Differing.TheInside.{Inside as Differing}

-- a speed for the trains of a category of these numbers and parts, in the order of the constructor's
abbrev pub differing_value : ℕ → ℕ → ℕ → Differing
differing_value q_diff category v_diff = record { q_diff = q_diff; category = category; v_diff = v_diff }

-- the variable of a category: NC_CDDIFF of one of cant deficiency, NC_DIFF of another one
abbrev pub category_var : Bool → Var
category_var by_cant = if by_cant then NC_CDDIFF else NC_DIFF

-- the variable of the category after Q_DIFF: NC_CDDIFF if it is 0, else NC_DIFF
abbrev pub category_of : ℕ → Var
category_of q_diff = category_var (q_diff == 0)

-- the format of a speed for the trains of a category: its variables in the order of sending
abbrev pub differing_format : Format Differing
differing_format =
    named (λ n. record { q_diff = n.0.0; category = n.0.1; v_diff = n.1 }) (λ d. ((d.q_diff, d.category), d.v_diff)) (
    choice Q_DIFF IsZero IsOneOrTwo category_var ⊗ number V_DIFF)

-- the first fault of a speed for the trains of a category, in the order of the variables
abbrev pub differing_fault : Differing → Option BuildFault
differing_fault = fault differing_format

-- the row of such a speed before a rest
abbrev pub differing_row : Layout → Layout
differing_row = row differing_format
