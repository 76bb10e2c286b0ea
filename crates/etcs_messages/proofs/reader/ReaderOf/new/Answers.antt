use Rattle.std.proofs.Common.{subst, ◌∙◌, arith}
use Rattle.etcs_tables.specs.declared.row.Way.{Way}
use Rattle.etcs_messages.specs.Readers.{Members, so_far}
use Rattle.etcs_messages.specs.laws.RestLaws.{rest_begins, rest_ended}
use Rattle.etcs_messages.proofs.Bytes.{message_bytes, some_bits, some_message, bits_counted}
use Rattle.etcs_messages.proofs.Holding.{members_at}
use Rattle.etcs_messages.proofs.Listing.{held_in_list}
use Rattle.etcs_messages.proofs.Spelling.{regular}
use Rattle.etcs_messages.proofs.SoFar.{far_is, far_long, next_asks}
use Rattle.etcs_messages.proofs.Wholes.{whole_reads}
use Rattle.etcs_messages.proofs.reader.ReaderOf.new.Goals as goal

pub new-requires-clause-readable : goal.new-requires-clause-readable
new-requires-clause-readable g c =
    let way = g.H.Packet.AnyPacket.WAY in
    let form = g.H.Packet.AnyPacket.form in
    let list = g.H.Store.ListStore.list in
    let holds = g.H.Store.PacketSink.holds in
    let listed = g.met.H.Store.ListStore.listed in
    record {
      regular = regular way;
      some = some_message way;
      bytes = message_bytes way;
      room = omega arith;
      long = some_bits way;
      begins_with = rest_begins;
      ended = rest_ended;
      residual = λ s t p h. h.residual;
      held = λ s t p q h k. (h.same ∙ k.0, h.held q k.1);
      far_is = λ s q l h. far_is form list s q l (held_in_list form list holds listed s q h.1);
      starved = λ s q f h. far_long holds s q f.1 h.1;
      asks = λ s q x e l f h. next_asks holds s q x e l f.1 h.1;
      whole = λ s e l h. whole_reads way g.H.Head.head g.B.Own.own form list g.met.H.Head.laws g.met.B.Own.laws s e l (h.0, held_in_list form list holds listed s _ h.1);
      counted = bits_counted way g.H.Head.head g.B.Own.own form;
      members = λ s part x e l h short whole. (let k = list s.store in subst (λ (w : Way). Members w form k.packets.items k.numbers.items k.bits (so_far form list s)) h.0 (members_at form list s _ part x e l (held_in_list form list holds listed s _ h.1) short whole));
    }
