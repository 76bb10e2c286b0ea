-- The sections of a movement authority and what follows them, of packets 12 and 15 (SUBSET-026, 7.4.2).
use Rattle.std.proofs.Common.{ℕ, List, Option}
use Rattle.etcs_vars.specs.declared.var.Var.TheVariants.{N_ITER, Q_ENDTIMER, T_ENDTIMER, D_ENDTIMERSTARTLOC, Q_DANGERPOINT, D_DP, V_RELEASEDP, Q_OVERLAP, D_STARTOL, T_OL, D_OL, V_RELEASEOL}
use Rattle.etcs_vars.specs.declared.fault.BuildFault.{BuildFault}
use Rattle.etcs_tables.specs.Layouts.{Layout}
use Rattle.etcs_bodies.specs.Formats.{Format, number, ◌⊗◌, optional, part, listed, named, fault, row}
use Rattle.etcs_parts.specs.Sections.{Section, section_format, end_format}
pub use Rattle.etcs_parts.specs.declared.authority.Authority.TheInside.{Inside as Authority}

-- ---- What is after flags.

-- the format of the end section's timer, after its flag
abbrev pub end_timer_format : Format (Option (ℕ × ℕ))
end_timer_format = optional Q_ENDTIMER (number T_ENDTIMER ⊗ number D_ENDTIMERSTARTLOC)

-- the format of the danger point, after its flag: its distance and the release speed
abbrev pub danger_format : Format (Option (ℕ × ℕ))
danger_format = optional Q_DANGERPOINT (number D_DP ⊗ number V_RELEASEDP)

-- an overlap: its timer's start and time, its length, and the release speed
abbrev pub Overlap : Type 0
Overlap = ℕ × ℕ × ℕ × ℕ

-- the format of an overlap without its flag
abbrev pub some_overlap_format : Format Overlap
some_overlap_format =
    named (λ n. (n.0, n.1.0, n.1.1.0, n.1.1.1)) (λ o. (o.0, (o.1, (o.2, o.3)))) (
    number D_STARTOL ⊗ number T_OL ⊗ number D_OL ⊗ number V_RELEASEOL)

-- the format of the overlap, after its flag
abbrev pub overlap_format : Format (Option Overlap)
overlap_format = optional Q_OVERLAP some_overlap_format

-- the format of what follows the sections: the end timer, the danger point and the overlap
abbrev pub groups_format : Format (Option (ℕ × ℕ) × (Option (ℕ × ℕ) × Option Overlap))
groups_format = end_timer_format ⊗ danger_format ⊗ overlap_format

-- ---- An authority.

-- an authority of these parts, in the order of the constructor's
abbrev pub authority_value : List Section → Section → Option (ℕ × ℕ) → Option (ℕ × ℕ) → Option Overlap → Authority
authority_value sections end end_timer danger_point overlap =
    record { sections = sections; end = end; end_timer = end_timer; danger_point = danger_point; overlap = overlap }

-- the format of an authority: its variables in the order of sending
abbrev pub authority_format : Format Authority
authority_format =
    named
    (λ n. record { sections = n.0; end = n.1.0; end_timer = n.1.1.0; danger_point = n.1.1.1.0; overlap = n.1.1.1.1 })
    (λ p. (p.sections, (p.end, (p.end_timer, (p.danger_point, p.overlap))))) (
    listed N_ITER section_format ⊗ part end_format ⊗ groups_format)

-- the first fault of an authority, in the order of the variables; its sections aren't looked at again
abbrev pub authority_fault : Authority → Option BuildFault
authority_fault = fault authority_format

-- the row of an authority before a rest
abbrev pub authority_row : Layout → Layout
authority_row = row authority_format
