-- Lemmas about specs/BaliseLists.antt.
use Rattle.std.proofs.Common.{◌≡◌, ℕ, ◌&&◌, Some, None, refl, nat_eq}
use Rattle.std.specs.Cmp.Lexicographic.{pointwise}
use Rattle.etcs_tables.specs.Rows.{row_to, balise_list}
use Rattle.etcs_tables.specs.declared.row.Way.TheVariants.{ToTrain}
use Rattle.etcs_bodies.specs.Packets.{packet_from}
use Rattle.etcs_bodies.specs.PacketCodes.{PacketCodes}
use Rattle.etcs_bodies.specs.PacketFormats.{packet_reading, packet_left}
use Rattle.etcs_bodies.specs.Equality.{IsExact}
use Rattle.etcs_bodies.specs.laws.PacketFormats.{IsPacketFormat, packet_short, exact_packet}
use Rattle.etcs_bodies.specs.laws.PacketCodes.{packet_codes}
use Rattle.etcs_bodies.specs.laws.Formats.{codes_of}
use Rattle.etcs_parts.specs.laws.BalisesAt.{balise_at_ok}
use Rattle.etcs_grouped.specs.BaliseLists.{BaliseListValue, balise_list_packet, nid_fault, IsBaliseList}
use Rattle.etcs_parts.specs.contracts.balise_at.BaliseAtPartialEq.TheImpl as balise_at_eq

pub balise_list_ok : IsPacketFormat balise_list_packet
balise_list_ok = record { again = λ p. refl; dir_is = λ dir b. refl; rest_is = λ dir b. refl; body = balise_at_ok; short = refl }

pub balise_list_codes : (nid : ℕ) → nid_fault nid ≡ None → row_to ToTrain nid ≡ Some balise_list → PacketCodes ToTrain nid (λ (p : BaliseListValue). p.dir) (IsBaliseList nid) (packet_reading balise_list_packet) (packet_from (packet_left balise_list_packet))
balise_list_codes nid listed typed =
    packet_codes (codes_of balise_list_packet.body balise_list_ok.body) ToTrain nid typed
    (record {
      body = λ p. p.balises;
      again = λ p. refl;
      dir_is = λ dir b. refl;
      same = λ dir b. refl;
      is = λ p h. (h.1.1, h.1.0, packet_short balise_list_packet balise_list_ok p h.1);
      so = λ dir b h ok fits. (listed, (ok, h));
      fits = λ dir b short. refl;
    })

pub balise_list_exact : IsExact (λ (a b : BaliseListValue). nat_eq a.dir b.dir && pointwise balise_at_eq.ghosts.eq a.balises b.balises)
balise_list_exact = exact_packet balise_list_packet balise_list_ok
