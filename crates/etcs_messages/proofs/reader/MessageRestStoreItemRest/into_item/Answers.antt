use Rattle.std.proofs.Common.{◌≡◌, ℕ, List, sym, ap, subst, ◌∙◌}
use Rattle.etcs_sequence.specs.declared.list.PacketList.{PacketList}
use Rattle.etcs_messages.specs.Readings.{content_by}
use Rattle.etcs_messages.specs.Lefts.{front_row}
use Rattle.etcs_messages.specs.Messages.{IsMessage}
use Rattle.etcs_messages.proofs.Listing.{held_in_list}
use Rattle.etcs_messages.proofs.Wholes.{whole_numbers, whole_reads}
use Rattle.etcs_messages.proofs.reader.MessageRestStoreItemRest.into_item.Goals as goal
use Rattle.etcs_messages.proofs.reader.MessageRestStoreItemRest.into_item.Goals.{After-content_of-content}
use Rattle.etcs_messages.proofs.reader.MessageRestStoreItemRest.into_item.Given.{Over}

pub content_of-content-requires : goal.content_of-content-requires
content_of-content-requires g c =
    let s = c.args.self in
    let form = g.H.Packet.AnyPacket.form in
    let list = g.H.Store.ListStore.list in
    let held = held_in_list form list g.H.Store.PacketSink.holds g.met.H.Store.ListStore.listed s _ c.requires.holds.1 in
    let numbers = whole_numbers g.H.Packet.AnyPacket.WAY g.H.Head.head g.B.Own.own form list g.met.H.Head.laws g.met.B.Own.laws s c.requires.ended c.requires.whole (c.requires.holds.0, held) in
    rw c.as_slice.ensures.value (rw (← c.self.view_is) at numbers)

-- what was read is a message
is_message : (g : Over) (c : After-content_of-content g) → IsMessage g.H.Packet.AnyPacket.WAY g.H.Head.head g.B.Own.own g.H.Packet.AnyPacket.form c.content_of-content.result
is_message g c =
    let i = c.self.inside in
    let s = c.args.self in
    let way = g.H.Packet.AnyPacket.WAY in
    let form = g.H.Packet.AnyPacket.form in
    let list = g.H.Store.ListStore.list in
    let k = list i.packets.store in
    let held = held_in_list form list g.H.Store.PacketSink.holds g.met.H.Store.ListStore.listed s _ c.requires.holds.1 in
    let is : c.content_of-content.result ≡ content_by way g.H.Head.head g.B.Own.own (front_row way i.nid) i.nid i.front.items k.packets.items k.bits i.padding =
    c.content_of-content.ensures
    ∙ ap (λ (front : List ℕ). content_by way g.H.Head.head g.B.Own.own (front_row way i.nid) i.nid front c.into_list-store.result.packets.items c.into_list-store.result.bits i.padding) c.as_slice.ensures.value
    ∙ ap (λ (l : PacketList _). content_by way g.H.Head.head g.B.Own.own (front_row way i.nid) i.nid i.front.items l.packets.items l.bits i.padding) c.into_list-store.ensures in
    let whole = whole_reads way g.H.Head.head g.B.Own.own form list g.met.H.Head.laws g.met.B.Own.laws s c.requires.ended c.requires.whole (c.requires.holds.0, held) in
    subst (IsMessage way g.H.Head.head g.B.Own.own form) (sym is) (rw (← c.self.view_is) at whole.0)

pub bytes_in-bytes-requires : goal.bytes_in-bytes-requires
bytes_in-bytes-requires g c = is_message g (goal.at.bytes_in-bytes-requires g c).After-content_of-content

pub invariant_of-result : goal.invariant_of-result
invariant_of-result g c = (is_message g (goal.at.invariant_of-result g c).After-content_of-content, c.bytes_in-bytes.ensures)
