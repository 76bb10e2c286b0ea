-- A section of a movement authority, of packets 12 and 15 (SUBSET-026, 7.4.2). The end section has another name for its
-- length.
use Rattle.std.proofs.Common.{ℕ, Option}
use Rattle.etcs_vars.specs.declared.var.Var.TheVariants.{L_SECTION, L_ENDSECTION, Q_SECTIONTIMER, T_SECTIONTIMER, D_SECTIONTIMERSTOPLOC}
use Rattle.etcs_vars.specs.declared.fault.BuildFault.{BuildFault}
use Rattle.etcs_bodies.specs.Formats.{Format, number, sent_as, ◌⊗◌, optional, named, fault}
pub use Rattle.etcs_parts.specs.declared.section.Section.TheInside.{Inside as Section}

-- a section of a movement authority of these numbers and parts, in the order of the constructor's
abbrev pub section_value : ℕ → Option (ℕ × ℕ) → Section
section_value length timer = record { length = length; timer = timer }

-- the format of a section's timer without its flag: its time and where it stops
abbrev pub times_format : Format (ℕ × ℕ)
times_format = number T_SECTIONTIMER ⊗ number D_SECTIONTIMERSTOPLOC

-- the format of a section's timer, after its flag
abbrev pub timer_format : Format (Option (ℕ × ℕ))
timer_format = optional Q_SECTIONTIMER times_format

-- the format of a section whose length has this format
abbrev pub section_of : Format ℕ → Format Section
section_of length = named (λ n. record { length = n.0; timer = n.1 }) (λ p. (p.length, p.timer)) (length ⊗ timer_format)

-- the format of a section of a movement authority: its variables in the order of sending
abbrev pub section_format : Format Section
section_format = section_of (number L_SECTION)

-- the format of the end section, which sends its length as L_ENDSECTION
abbrev pub end_format : Format Section
end_format = section_of (sent_as L_SECTION L_ENDSECTION)

-- the first fault of a section of a movement authority, in the order of the variables
abbrev pub section_fault : Section → Option BuildFault
section_fault = fault section_format
