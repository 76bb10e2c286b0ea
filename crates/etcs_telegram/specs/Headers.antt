-- What is wrong with a header, in the order of its variables (SUBSET-026, 7.5).
use Rattle.std.specs.Prelude.{◌≡◌, ℕ, List, length, Option}
use Rattle.etcs_vars.specs.Reading.{IsAdmitted}
use Rattle.etcs_vars.specs.declared.fault.BuildFault.{BuildFault}
use Rattle.etcs_vars.specs.declared.var.Var.TheVariants.{M_VERSION_HEADER, N_PIG, N_TOTAL, M_DUP, M_MCOUNT, NID_C, NID_BG}
use Rattle.etcs_vars.specs.Faults.{◌or_else◌, number_fault}
use Rattle.etcs_sequence.specs.Labels.{labelled}
use Rattle.etcs_tables.specs.Headers.{header_row}

-- the first variable of the header, in the order of sending, that doesn't admit its number
abbrev pub header_fault : ℕ → ℕ → ℕ → ℕ → ℕ → ℕ → ℕ → Option BuildFault
header_fault m_version n_pig n_total m_dup m_mcount nid_c nid_bg =
    number_fault M_VERSION_HEADER m_version or_else number_fault N_PIG n_pig or_else number_fault N_TOTAL n_total or_else number_fault M_DUP m_dup or_else number_fault M_MCOUNT m_mcount or_else number_fault NID_C nid_c or_else number_fault NID_BG nid_bg

-- ten numbers that the header's variables admit
pub record IsHeaderNumbers (ns : List ℕ) : Type 0 where
  pub ten : length ns ≡ 10
  pub admitted : IsAdmitted (labelled header_row ns)
