-- A page on which packets are written as they are read.
use Rattle.std.proofs.Common.{◌≡◌, ℕ, List, ◌∷◌, fold, take}
use Rattle.etcs_bits.specs.Bits.{bit}
use Rattle.etcs_packets.specs.PacketValues.{PacketValue}
use Rattle.etcs_packet_text.specs.declared.packet_page.Place.{Place}

-- it is the page that ended at this place, with these packets more
pub record IsWritten {W : Type 0} (text : W → List ℕ) (ends : W → Place → Type 0) (and_packet : W → PacketValue → W) (place : Place) (page : W) (vs : List PacketValue) : Type 0 where
  pub first : W
  pub ended : ends first place
  pub same : text first ≡ take place.len (text page)
  pub is : page ≡ fold and_packet first vs

-- the place, as numbers, and the text up to it
abbrev pub text_before : Place → List ℕ → List ℕ
text_before place text = place.len ∷ bit place.later ∷ take place.len text
