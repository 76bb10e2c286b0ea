-- Lemmas about specs/TrainFlats.antt.
use Rattle.std.proofs.Common.{◌≡◌, ℕ, List, None, refl}
use Rattle.std.specs.Prelude.{IsSome}
use Rattle.etcs_tables.specs.declared.row.Way.TheVariants.{ToTrack}
use Rattle.etcs_bodies.specs.Packets.{packet_to}
use Rattle.etcs_bodies.specs.PacketCodes.{PacketCodes}
use Rattle.etcs_flat.specs.Flats.{flat_row_to, flat_fault_to, flat_reading_to}
use Rattle.etcs_flat.specs.FlatCodes.{flat_from_to}
use Rattle.etcs_flat.specs.laws.FlatCodes.{flat_codes_to}
use Rattle.etcs_track.specs.TrainFlats.{alone}

pub train_flat_codes : (nid : ℕ) → IsSome (flat_row_to ToTrack nid) → PacketCodes ToTrack nid (λ (ns : List ℕ). 0) (λ ns. flat_fault_to ToTrack nid 0 ns ≡ None) (λ ns. flat_reading_to ToTrack nid ns) (packet_to ToTrack (flat_from_to ToTrack alone nid))
train_flat_codes nid there = flat_codes_to ToTrack (λ ns. 0) (λ ns. ns) alone (record { again = λ ns. refl; dir_is = λ dir ns. refl; same = λ dir ns. refl }) nid there
