-- Lemmas about specs/PacketFormats.antt.
use Rattle.std.proofs.Common.{◌≡◌, ℕ, ◌≤◌, ◌++◌, [], length, Some, sym, ap, arith}
use Rattle.std.specs.Prelude.{IsTrue, nat_le}
use Rattle.std.proofs.lemmas.Bool.{leb-true}
use Rattle.etcs_vars.specs.Reading.{Reading, spelled}
use Rattle.etcs_tables.specs.declared.row.Way.TheVariants.{ToTrain}
use Rattle.etcs_tables.specs.Layouts.{whole, ROW_LIMIT}
use Rattle.etcs_tables.specs.Rows.{row_to}
use Rattle.etcs_bodies.specs.Equality.{IsExact}
use Rattle.etcs_bodies.specs.Packets.{packet_from}
use Rattle.etcs_bodies.specs.Taking.{Left}
use Rattle.etcs_bodies.specs.Passing.{Passed, PassedRow}
use Rattle.etcs_bodies.specs.laws.Passing.{passed_row}
use Rattle.etcs_bodies.specs.PacketCodes.{PacketCodes}
use Rattle.etcs_bodies.specs.Formats.{Is, reading, row, most}
use Rattle.etcs_bodies.specs.PacketFormats.{PacketFormat, IsPacketOf, packet_reading, packet_left, packet_equal}
use Rattle.etcs_bodies.specs.laws.Repeats.{bit_count_is}
use Rattle.etcs_bodies.specs.laws.Equality.{number_exact, both_exact, fields_exact}
use Rattle.etcs_bodies.specs.laws.PacketCodes.{packet_codes, never_long}
use Rattle.etcs_bodies.specs.laws.Formats.{IsFormat, codes_of, at_most, exact_of}

-- direction and rest are the packet, and its longest row isn't longer than L_PACKET counts
pub record IsPacketFormat {B P : Type 0} (k : PacketFormat B P) : Type 0 where
  pub again : (p : P) → k.make (k.direction p) (k.rest p) ≡ p
  pub dir_is : (dir : ℕ) (b : B) → k.direction (k.make dir b) ≡ dir
  pub rest_is : (dir : ℕ) (b : B) → k.rest (k.make dir b) ≡ b
  pub body : IsFormat k.body
  pub short : IsTrue (nat_le (most k.body) ROW_LIMIT)

module _ {B P : Type 0} (k : PacketFormat B P) where
  pub packet_most : (p : P) → IsPacketOf k p → length (spelled (packet_reading k p)) ≤ most k.body
  packet_most p h = rw (bit_count_is (packet_reading k p)) (at_most k.body (k.rest p) h.1)

  pub packet_short : IsPacketFormat k → (p : P) → IsPacketOf k p → length (spelled (packet_reading k p)) ≤ ROW_LIMIT
  packet_short ok p h =
      let few = leb-true (most k.body) ROW_LIMIT ok.short in
      let all = packet_most p h in
      omega arith

  pub codes_of_packet : IsPacketFormat k → (nid : ℕ) → row_to ToTrain nid ≡ Some (row k.body whole) → PacketCodes ToTrain nid k.direction (IsPacketOf k) (packet_reading k) (packet_from (packet_left k))
  codes_of_packet ok nid is =
      packet_codes (codes_of k.body ok.body) ToTrain nid is
      (never_long k.rest ok.again ok.dir_is ok.rest_is (λ dir b. ap (reading k.body) (sym (ok.rest_is dir b))) (packet_short ok))

  pub exact_packet : IsPacketFormat k → IsExact (packet_equal k)
  exact_packet ok = fields_exact (λ (p : P). (k.direction p, k.rest p)) (λ (n : ℕ × B). k.make n.0 n.1) ok.again (both_exact number_exact (exact_of k.body ok.body))

  -- the row of a packet of the format whose body went
  pub passed_packet : IsPacketFormat k → (nid : ℕ) → row_to ToTrain nid ≡ Some (row k.body whole) → {S : Type 0} (with : S → Reading → S) → ((o : S) (a b : Reading) → with o (a ++ b) ≡ with (with o a) b)
      → (s t : Left) (o p : S) → Passed (Is k.body) (reading k.body) with s t o p → PassedRow ToTrain nid with s t o p
  passed_packet ok nid is with both = passed_row with both (codes_of k.body ok.body) ToTrain nid is
