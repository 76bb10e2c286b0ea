-- Packets of a scale, a first entry and further ones: 5, 21, 27 and 80 (SUBSET-026, 7.4.2).
use Rattle.std.proofs.Common.{◌≡◌, ℕ, List, ◌∷◌, length, Option, None, nat_le}
use Rattle.std.specs.Prelude.{if◌then◌else◌}
use Rattle.etcs_vars.specs.declared.var.Var.TheVariants.{Q_DIR, Q_SCALE, N_ITER}
use Rattle.etcs_vars.specs.declared.fault.BuildFault.{BuildFault}
use Rattle.etcs_vars.specs.Faults.{◌or_else◌, number_fault}
use Rattle.etcs_vars.specs.Reading.{Reading}
use Rattle.etcs_tables.specs.Layouts.{Layout}
use Rattle.etcs_tables.specs.Rows.{◌▸◌}
use Rattle.etcs_bodies.specs.Faults.{count_fault}
use Rattle.etcs_bodies.specs.Taking.{Left, next_number}
use Rattle.etcs_bodies.specs.Formats.{reading}
use Rattle.etcs_bodies.specs.Codecs.{both_from, IsBoth}
use Rattle.etcs_bodies.specs.Entries.{AreEntries, entries_reading, entries_from, entries_row}
use Rattle.etcs_bodies.specs.Packets.{length_fault}
use Rattle.etcs_bodies.specs.PacketCodes.{directed_from}
use Rattle.etcs_parts.specs.declared.link.Link.{Link}
use Rattle.etcs_parts.specs.Links.{link_format}
use Rattle.etcs_parts.specs.declared.slope.Slope.{Slope}
use Rattle.etcs_parts.specs.Slopes.{slope_format}
use Rattle.etcs_parts.specs.declared.speed.Speed.{Speed}
use Rattle.etcs_parts.specs.Speeds.{speed_format}
use Rattle.etcs_parts.specs.declared.mode_section.ModeSection.{ModeSection}
use Rattle.etcs_parts.specs.ModeSections.{mode_section_format}

-- such a packet of entries `V`: its direction, its scale, its first entry and its further ones
pub record ChainValue (V : Type 0) : Type 0 where
  pub dir : ℕ
  pub q_scale : ℕ
  pub first : V
  pub further : List V

-- such a packet of this direction, this scale and these entries
abbrev pub chain_value : {V : Type 0} → ℕ → ℕ → V → List V → ChainValue V
chain_value dir q_scale first further = record { dir = dir; q_scale = q_scale; first = first; further = further }

-- its variables after L_PACKET in the order of sending, by those of an entry
abbrev pub chain_reading : {V : Type 0} → (V → Reading) → ChainValue V → Reading
chain_reading reading p = (Q_SCALE, p.q_scale) ∷ entries_reading reading (p.first, p.further)

-- the fault of more than 8,168 bits, which only entries that may have more than 255 bits each can take
abbrev pub too_long : {V : Type 0} → ℕ → (V → Reading) → ChainValue V → Option BuildFault
too_long most reading p = if nat_le most 255 then None else length_fault (chain_reading reading p)

-- the first fault, by the most bits of an entry: the direction, the scale, the count of further entries, then a row of
-- more than 8,168 bits; the entries aren't looked at again
abbrev pub chain_fault : {V : Type 0} → ℕ → (V → Reading) → ChainValue V → Option BuildFault
chain_fault most reading p = number_fault Q_DIR p.dir or_else number_fault Q_SCALE p.q_scale or_else count_fault N_ITER (length p.further) or_else too_long most reading p

-- ---- All but the direction.

-- such a packet without its direction: its scale, its first entry and its further ones
abbrev pub ChainBody : Type 0 → Type 0
ChainBody V = ℕ × (V × List V)

-- the packet of a direction and all else
abbrev pub chain_of : {V : Type 0} → ℕ → ChainBody V → ChainValue V
chain_of dir b = chain_value dir b.0 b.1.0 b.1.1

-- all of a packet but its direction
abbrev pub body_of : {V : Type 0} → ChainValue V → ChainBody V
body_of p = (p.q_scale, (p.first, p.further))

-- Q_SCALE admits the scale, N_ITER counts the further entries, and each entry is one
abbrev pub IsBody : {V : Type 0} → (V → Type 0) → ChainBody V → Type 0
IsBody IsV = IsBoth (λ n. number_fault Q_SCALE n ≡ None) (AreEntries IsV)

-- nothing is wrong with the packet, nor with any of its entries
abbrev pub IsChain : {V : Type 0} → (V → Type 0) → ℕ → (V → Reading) → ChainValue V → Type 0
IsChain IsV most reading p = (number_fault Q_DIR p.dir ≡ None) × IsBody IsV (body_of p) × (too_long most reading p ≡ None)

-- the row of such a packet after L_PACKET before a rest, by that of an entry
abbrev pub chain_row : (Layout → Layout) → Layout → Layout
chain_row row rest = Q_SCALE ▸ entries_row row rest

-- the packet of a direction, of at most 8,168 bits after L_PACKET, with which what is left begins, and what is left
-- after it
unfoldable pub chain_from : {V : Type 0} → ℕ → (V → Reading) → (Left → Option (V × Left)) → ℕ → Left → Option (ChainValue V × Left)
chain_from most reading from = directed_from (both_from (next_number Q_SCALE) (entries_from from)) (too_long most reading) chain_of

-- ---- Of links, slopes, speeds and areas of modes.

-- the first fault of packet 5: the direction, the scale, then the count of further entries; the entries aren't
-- looked at again
abbrev pub linking_fault : ChainValue Link → Option BuildFault
linking_fault = chain_fault 49 (reading link_format)

-- the first fault of packet 21: the direction, the scale, then the count of further entries; the entries aren't
-- looked at again
abbrev pub gradient_fault : ChainValue Slope → Option BuildFault
gradient_fault = chain_fault 24 (reading slope_format)

-- the first fault of packet 27: the direction, the scale, the count of further entries, then a row of more than
-- 8,168 bits; the entries aren't looked at again
abbrev pub speed_profile_fault : ChainValue Speed → Option BuildFault
speed_profile_fault = chain_fault 431 (reading speed_format)

-- the first fault of packet 80: the direction, the scale, then the count of further entries; the entries aren't
-- looked at again
abbrev pub mode_profile_fault : ChainValue ModeSection → Option BuildFault
mode_profile_fault = chain_fault 55 (reading mode_section_format)
