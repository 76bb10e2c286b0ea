-- Lemmas about specs/Chains.antt.
use Rattle.std.proofs.Common.{◌≡◌, ℕ, ◌+◌, ◌<◌, ◌≤◌, Bool, true, false, nat_eq, ◌&&◌, length, Option, Some, None, nat_le, refl, ◌∙◌, arith}
use Rattle.std.specs.Prelude.{if◌then◌else◌}
use Rattle.std.specs.Cmp.Lexicographic.{pointwise}
use Rattle.std.proofs.lemmas.Bool.{leb-true, le-leb, lt-leb}
use Rattle.etcs_vars.specs.declared.var.Var.TheVariants.{Q_SCALE}
use Rattle.etcs_vars.specs.declared.fault.BuildFault.TheVariants.{TooLong}
use Rattle.etcs_vars.specs.Reading.{Reading, spelled}
use Rattle.etcs_tables.specs.declared.row.Way.TheVariants.{ToTrain}
use Rattle.etcs_tables.specs.Layouts.{Layout, whole, ROW_LIMIT}
use Rattle.etcs_tables.specs.Rows.{row_to}
use Rattle.etcs_bodies.specs.Taking.{Left}
use Rattle.etcs_bodies.specs.Formats.{Is, reading, from}
use Rattle.etcs_bodies.specs.laws.Formats.{codes_of, at_most}
use Rattle.etcs_bodies.specs.Repeats.{bit_count}
use Rattle.etcs_bodies.specs.laws.Repeats.{bit_count_is}
use Rattle.etcs_bodies.specs.Codecs.{Codes}
use Rattle.etcs_bodies.specs.laws.Codecs.{number, both}
use Rattle.etcs_bodies.specs.Entries.{AreEntries, entries_reading}
use Rattle.etcs_bodies.specs.laws.Entries.{entries_codes, entries_most}
use Rattle.etcs_bodies.specs.Packets.{bits_fault, length_fault, packet_from}
use Rattle.etcs_bodies.specs.laws.Packets.{length_fits, length_ok, length_is}
use Rattle.etcs_bodies.specs.PacketCodes.{PacketCodes}
use Rattle.etcs_bodies.specs.laws.PacketCodes.{packet_codes}
use Rattle.etcs_bodies.specs.Equality.{IsExact}
use Rattle.etcs_bodies.specs.laws.Equality.{number_exact, list_exact, both_exact, fields_exact}
use Rattle.etcs_parts.specs.declared.link.Link.{Link}
use Rattle.etcs_parts.specs.Links.{link_format}
use Rattle.etcs_parts.specs.laws.Links.{link_ok}
use Rattle.etcs_parts.specs.declared.slope.Slope.{Slope}
use Rattle.etcs_parts.specs.Slopes.{slope_format}
use Rattle.etcs_parts.specs.laws.Slopes.{slope_ok}
use Rattle.etcs_parts.specs.declared.speed.Speed.{Speed}
use Rattle.etcs_parts.specs.Speeds.{speed_format}
use Rattle.etcs_parts.specs.laws.Speeds.{speed_ok}
use Rattle.etcs_parts.specs.declared.mode_section.ModeSection.{ModeSection}
use Rattle.etcs_parts.specs.ModeSections.{mode_section_format}
use Rattle.etcs_parts.specs.laws.ModeSections.{mode_section_ok}
use Rattle.etcs_grouped.specs.Chains.{ChainValue, chain_reading, too_long, chain_of, body_of, IsChain, chain_row, chain_from}

-- ---- Its bits.

pub surely_short : {V : Type 0} (most : ℕ) (reading : V → Reading) (p : ChainValue V) → most ≤ 255 → too_long most reading p ≡ None
surely_short most reading p h = rw (le-leb most 255 h) refl

by_length : {V : Type 0} (most : ℕ) (reading : V → Reading) (p : ChainValue V) → 255 < most → (bits : ℕ) → bits ≡ length (spelled (entries_reading reading (p.first, p.further))) → too_long most reading p ≡ bits_fault (2 + bits)
by_length most reading p h bits e = rw (lt-leb most 255 h) (length_is (chain_reading reading p) (2 + bits) (let c = e ∙ bit_count_is (entries_reading reading (p.first, p.further)) in omega arith))

pub short_enough : {V : Type 0} (most : ℕ) (reading : V → Reading) (p : ChainValue V) → 255 < most → (bits : ℕ) → bits ≡ length (spelled (entries_reading reading (p.first, p.further))) → 2 + bits ≤ 8168 → too_long most reading p ≡ None
unfolding bits_fault
short_enough most reading p h bits e short = by_length most reading p h bits e ∙ rw (le-leb (2 + bits) ROW_LIMIT short) refl

pub not_short : {V : Type 0} (most : ℕ) (reading : V → Reading) (p : ChainValue V) → 255 < most → (bits : ℕ) → bits ≡ length (spelled (entries_reading reading (p.first, p.further))) → 8168 < 2 + bits → too_long most reading p ≡ Some TooLong
unfolding bits_fault
not_short most reading p h bits e long = by_length most reading p h bits e ∙ rw (lt-leb (2 + bits) ROW_LIMIT long) refl

module _ {V : Type 0} (IsV : V → Type 0) (reading : V → Reading) (most : ℕ) (each : (v : V) → IsV v → bit_count (reading v) ≤ most) where
  by_most : (b : Bool) (p : ChainValue V) → nat_le most 255 ≡ b → AreEntries IsV (p.first, p.further) → (if b then None else length_fault (chain_reading reading p)) ≡ None → length (spelled (chain_reading reading p)) ≤ ROW_LIMIT
  by_most true p few h none =
      let few = leb-true most 255 few in
      let entries = entries_most IsV reading most each (p.first, p.further) h in
      rw (bit_count_is (chain_reading reading p)) (omega arith)
  by_most false p few h none = length_fits (chain_reading reading p) none

  pub chain_short : (p : ChainValue V) → IsChain IsV most reading p → length (spelled (chain_reading reading p)) ≤ ROW_LIMIT
  chain_short p h = by_most (nat_le most 255) p refl h.1.1 h.2

no_fault : {V : Type 0} (reading : V → Reading) (b : Bool) (p : ChainValue V) → length (spelled (chain_reading reading p)) ≤ ROW_LIMIT → (if b then None else length_fault (chain_reading reading p)) ≡ None
no_fault reading true p short = refl
no_fault reading false p short = length_ok (chain_reading reading p) short

module _ {V : Type 0} {row : Layout → Layout} {IsV : V → Type 0} {reading : V → Reading} {from : Left → Option (V × Left)} (codes : Codes row IsV reading from) (most : ℕ) (each : (v : V) → IsV v → bit_count (reading v) ≤ most) where
  pub chain_codes : (nid : ℕ) → row_to ToTrain nid ≡ Some (chain_row row whole) → PacketCodes ToTrain nid (λ (p : ChainValue V). p.dir) (IsChain IsV most reading) (chain_reading reading) (packet_from (chain_from most reading from))
  unfolding chain_from
  chain_codes nid is =
      packet_codes (both (number Q_SCALE) (entries_codes codes)) ToTrain nid is
      (record {
        body = body_of;
        again = λ p. refl;
        dir_is = λ dir b. refl;
        same = λ dir b. refl;
        is = λ p h. (h.1, h.0, chain_short IsV reading most each p h);
        so = λ dir b h ok fits. (ok, h, fits);
        fits = λ dir b short. no_fault reading (nat_le most 255) (chain_of dir b) short;
      })

-- ---- Of links, slopes, speeds and areas of modes.

pub linking_codes : PacketCodes ToTrain 5 (λ (p : ChainValue Link). p.dir) (IsChain (Is link_format) 49 (reading link_format)) (chain_reading (reading link_format)) (packet_from (chain_from 49 (reading link_format) (from link_format)))
linking_codes = chain_codes (codes_of link_format link_ok) 49 (at_most link_format) 5 refl

pub gradient_codes : PacketCodes ToTrain 21 (λ (p : ChainValue Slope). p.dir) (IsChain (Is slope_format) 24 (reading slope_format)) (chain_reading (reading slope_format)) (packet_from (chain_from 24 (reading slope_format) (from slope_format)))
gradient_codes = chain_codes (codes_of slope_format slope_ok) 24 (at_most slope_format) 21 refl

pub speed_profile_codes : PacketCodes ToTrain 27 (λ (p : ChainValue Speed). p.dir) (IsChain (Is speed_format) 431 (reading speed_format)) (chain_reading (reading speed_format)) (packet_from (chain_from 431 (reading speed_format) (from speed_format)))
speed_profile_codes = chain_codes (codes_of speed_format speed_ok) 431 (at_most speed_format) 27 refl

pub mode_profile_codes : PacketCodes ToTrain 80 (λ (p : ChainValue ModeSection). p.dir) (IsChain (Is mode_section_format) 55 (reading mode_section_format)) (chain_reading (reading mode_section_format)) (packet_from (chain_from 55 (reading mode_section_format) (from mode_section_format)))
mode_profile_codes = chain_codes (codes_of mode_section_format mode_section_ok) 55 (at_most mode_section_format) 80 refl

-- ---- Its equality.

pub chain_exact : {V : Type 0} {E : V → V → Bool} → IsExact E → IsExact (λ (a b : ChainValue V). nat_eq a.dir b.dir && (nat_eq a.q_scale b.q_scale && (E a.first b.first && pointwise E a.further b.further)))
chain_exact {V} e =
    fields_exact (λ (p : ChainValue V). (p.dir, body_of p)) (λ n. chain_of n.0 n.1) (λ p. refl) (
    both_exact number_exact (both_exact number_exact (both_exact e (list_exact e))))
