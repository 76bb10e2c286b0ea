use Rattle.std.proofs.Common.{◌≡◌, sym, ap, subst, ◌∙◌, arith, List, Bool}
use Rattle.etcs_bits.specs.Bits.{bits, part}
use Rattle.etcs_sequence.specs.Refs.{ArePackets, spellings}
use Rattle.etcs_telegram.specs.Telegrams.{TelegramValue, packet_room}
use Rattle.etcs_telegram.specs.Views.{ViewValue, Sees}
use Rattle.etcs_telegram.proofs.Encoding.{room_more}
use Rattle.etcs_telegram.proofs.Viewing.{seen_one, seen_packets, seen_are, seen_long}
use Rattle.etcs_telegram.proofs.view.TelegramView.packets.Goals as goal

pub bits_at-requires : goal.bits_at-requires
bits_at-requires c =
    let v = c.self.inside in
    omega (arith, c.packet_room.ensures, room_more v.size, seen_long v.size (bits v.bytes.now) v.header v.packets v.end c.self.invariant)

pub packets-requires : goal.packets-requires
packets-requires c =
    let v = c.self.inside in
    let b = bits v.bytes.now in
    let is : c.bits_at.result ≡ part 50 (packet_room v.size) b = c.bits_at.ensures ∙ ap (λ n. part 50 n b) c.packet_room.ensures in
    subst (λ (u : List Bool). ArePackets v.packets u) (sym is) (seen_are v.size b v.header v.packets v.end c.self.invariant)

pub returns : goal.returns
returns c =
    let v = c.self.inside in
    let b = bits v.bytes.now in
    let i = c.self.invariant in
    let is : c.bits_at.result ≡ part 50 (packet_room v.size) b = c.bits_at.ensures ∙ ap (λ n. part 50 n b) c.packet_room.ensures in
    let p = seen_packets v.size b v.header v.packets v.end i in
    let all = c.packets.ensures i.telegram.packets p.0 i.reads.1.packets_hold i.packets_are (is ∙ p.1) in
    subst (λ (w : ViewValue). (t : TelegramValue) → Sees w t → c.packets.result ≡ spellings t.packets) c.self.view_is
    (λ t (r, reads, e). all ∙ sym (ap (λ (u : TelegramValue). spellings u.packets) (seen_one v.size b v.header v.packets v.end i t r reads e)))
