use Rattle.std.proofs.Common.{◌≡◌, ℕ, ◌+◌, ◌-◌, ◌≤◌, List, [], ◌∷◌, ◌++◌, Some, length, sym, ap, ◌∙◌, arith, append-nil}
use Rattle.std.proofs.lemmas.Result.{on_ok_weaker, on_err_weaker}
use Rattle.etcs_bits.specs.Bits.{num}
use Rattle.etcs_vars.specs.declared.var.Var.{Var}
use Rattle.etcs_vars.specs.declared.var.Var.TheVariants.{NID_MESSAGE, L_MESSAGE, PADDING}
use Rattle.etcs_vars.specs.Reading.{Reading, spelled, kept}
use Rattle.etcs_sequence.specs.Labels.{labelled}
use Rattle.etcs_messages.specs.declared.phase.Phase.TheVariants.{Packets}
use Rattle.etcs_messages.specs.Lefts.{front_row, front_bits, headed, MessageState, HoldsIn}
use Rattle.etcs_messages.specs.Readers.{so_far}
use Rattle.etcs_messages.proofs.Fronts.{front_there}
use Rattle.etcs_messages.proofs.Listing.{in_list, held_in_list}
use Rattle.etcs_messages.proofs.RestHolds.{state}
use Rattle.etcs_messages.proofs.Sending.{all_sent, packets, read_so_far, packets_read, padding_read, whole_read, front_read, packets_way, packets_go, packets_here, Padded}
use Rattle.etcs_messages.proofs.variables.MessageRest+H+B+H+Store.send_read.Goals as goal
use Rattle.etcs_messages.proofs.variables.MessageRest+H+B+H+Store.send_read.Goals.{In_ok-send_numbers}
use Rattle.etcs_messages.proofs.variables.MessageRest+H+B+H+Store.send_read.Given.{Over}

module _ (g : Over) (c : In_ok-send_numbers g) where
  abbrev message : MessageState g.row.H-Store.Denot
  message = let i = c.self.inside in state g.H.Packet.AnyPacket.WAY i.nid i.phase i.front.items i.packets.left i.padding i.packets.store i.stands

  abbrev read : Reading
  read = so_far g.H.Packet.AnyPacket.form g.H.Store.ListStore.list message

  -- what is held of it
  in_its_list : HoldsIn (in_list g.H.Packet.AnyPacket.form g.H.Store.ListStore.list) message read
  in_its_list = held_in_list g.H.Packet.AnyPacket.form g.H.Store.ListStore.list g.H.Store.PacketSink.holds g.met.H.Store.ListStore.listed message read (rw (← c.self.view_is) at c.requires.held)

  counted : (len : ℕ) (r : Reading) → read ≡ headed message.nid len r → c.bytes_by.result ≡ len
  counted = rw (← c.self.view_is) at c.bytes_by.ensures

  bits_are : c.args.bits ≡ length (spelled read)
  bits_are = rw (← c.self.view_is) at c.requires.bits

  -- the variables of the front
  row : (vars : List Var) × (front_row message.way message.nid ≡ Some vars) × (c.in-Some.front ≡ front_bits vars)
  row = front_there front_bits (front_row message.way message.nid) c.in-Some.front (rw c.WAY.ensures at c.in-Some.ensures)

  -- what was sent
  first : c.send-2.new.self ≡ g.S.VarSink.with c.args.out.now ((NID_MESSAGE, message.nid) ∷ (L_MESSAGE, c.bytes_by.result) ∷ [])
  first = rw c.from-2.ensures at c.in_ok-send.ensures.ok

  second : c.send_numbers.new.out ≡ g.S.VarSink.with c.send-2.new.self (labelled row.0 message.front)
  second = (rw (c.WAY-2.ensures, c.as_slice-2.ensures.value) at c.in_ok-send_numbers.ensures.ok) row.0 row.1

  fails : (new : g.row.S.Denot) → g.S.VarSink.failed c.send_numbers.new.out new → g.S.VarSink.failed c.args.out.now new
  fails new h =
      let after = g.met.S.VarSink.failed_after in
      after c.args.out.now ((NID_MESSAGE, message.nid) ∷ (L_MESSAGE, c.bytes_by.result) ∷ []) new (rw first at (after c.send-2.new.self (labelled row.0 message.front) new (rw second at h)))

  third : (new : g.row.S.Denot) (rest : Reading) → read ≡ headed message.nid c.bytes_by.result (labelled row.0 message.front ++ rest) → new ≡ g.S.VarSink.with c.send_numbers.new.out rest → new ≡ g.S.VarSink.with c.args.out.now read
  third new rest is last = all_sent g.S.VarSink.with g.met.S.VarSink.with_both c.args.out.now c.send-2.new.self c.send_numbers.new.out new ((NID_MESSAGE, message.nid) ∷ (L_MESSAGE, c.bytes_by.result) ∷ []) (labelled row.0 message.front) rest read first second last is

  many : message.phase ≡ Packets → (read ≡ headed message.nid c.bytes_by.result (labelled row.0 message.front ++ read_so_far g.H.Packet.AnyPacket.form g.H.Store.ListStore.list message)) × (length (spelled read) ≡ front_bits row.0 + length (spelled (read_so_far g.H.Packet.AnyPacket.form g.H.Store.ListStore.list message)))
  many = packets_read g.H.Packet.AnyPacket.form g.H.Store.ListStore.list message in_its_list c.bytes_by.result counted row.0 row.1

  -- all packets, and PADDING
  abbrev AllPackets : Type 0
  AllPackets = Padded g.H.Packet.AnyPacket.form g.H.Store.ListStore.list message in_its_list c.bytes_by.result counted row.0 row.1

  few : AllPackets → c.in-Some.front ≤ c.args.bits
  few (count, short, is, long) = omega (arith, bits_are, row.2, long)

  room : AllPackets → (count : ℕ) × (count ≤ 7) × (c.args.bits - c.in-Some.front ≡ length (spelled (packets g.H.Packet.AnyPacket.form g.H.Store.ListStore.list message)) + count)
  room (count, short, is, long) = (count, short, omega (arith, bits_are, row.2, long))

  sent : (new : g.row.S.Denot) → AllPackets
      → ((count : ℕ) → c.args.bits - c.in-Some.front ≡ length (spelled (packets g.H.Packet.AnyPacket.form g.H.Store.ListStore.list message)) + count → new ≡ g.S.VarSink.with c.send_numbers.new.out (packets g.H.Packet.AnyPacket.form g.H.Store.ListStore.list message ++ kept PADDING (num count message.padding)))
      → new ≡ g.S.VarSink.with c.args.out.now read
  sent new (count, short, is, long) last = third new _ is (last count (omega (arith, bits_are, row.2, long)))

pub overflow_sub-bits : goal.overflow_sub-bits
overflow_sub-bits g c =
    let k = (goal.at.overflow_sub-bits g c).In_ok-send_numbers in
    let long = (many g k c.in-Packets.is).1 in
    omega (arith, bits_are g k, (row g k).2, long)

pub send-requires-in-Packets : goal.send-requires-in-Packets
send-requires-in-Packets g c =
    let k = (goal.at.send-requires-in-Packets g c).In_ok-send_numbers in
    let form = g.H.Packet.AnyPacket.form in
    let list = g.H.Store.ListStore.list in
    let s = message g k in
    let e = c.in-Packets.is in
    let long = (many g k e).1 in
    record {
      way = packets_way form list s e;
      goes = packets_go form list s e (rw (← c.self.view_is) at c.requires.goes);
      here = rw c.list-list.ensures (packets_here form list s e (read g k) (in_its_list g k));
      taken = rw c.list-list.ensures (omega (arith, bits_are g k, (row g k).2, long));
    }

pub returns-in-Packets-clause-ok : goal.returns-in-Packets-clause-ok
returns-in-Packets-clause-ok g c =
    let k = (goal.at.returns-in-Packets-clause-ok g c).In_ok-send_numbers in
    rw (← c.self.view_is) (on_ok_weaker c.send-in-Packets.result (third g k c.send-in-Packets.new.out _ (many g k c.in-Packets.is).0) (rw c.list-list.ensures at c.send-in-Packets.ensures.ok))

pub returns-in-Packets-clause-err : goal.returns-in-Packets-clause-err
returns-in-Packets-clause-err g c =
    let k = (goal.at.returns-in-Packets-clause-err g c).In_ok-send_numbers in
    on_err_weaker c.send-in-Packets.result (fails g k c.send-in-Packets.new.out) c.send-in-Packets.ensures.err

pub overflow_sub-bits-in-Padding : goal.overflow_sub-bits-in-Padding
overflow_sub-bits-in-Padding g c =
    let k = (goal.at.overflow_sub-bits-in-Padding g c).In_ok-send_numbers in
    few g k (padding_read g.H.Packet.AnyPacket.form g.H.Store.ListStore.list (message g k) (in_its_list g k) c.bytes_by.result (counted g k) (row g k).0 (row g k).1 c.in-Padding.field-0 c.in-Padding.is)

pub send_padded-requires : goal.send_padded-requires
send_padded-requires g c =
    let k = (goal.at.send_padded-requires g c).In_ok-send_numbers in
    rw (← c.self.view_is) (room g k (padding_read g.H.Packet.AnyPacket.form g.H.Store.ListStore.list (message g k) (in_its_list g k) c.bytes_by.result (counted g k) (row g k).0 (row g k).1 c.in-Padding.field-0 c.in-Padding.is))

pub returns-in-Padding-clause-ok : goal.returns-in-Padding-clause-ok
returns-in-Padding-clause-ok g c =
    let k = (goal.at.returns-in-Padding-clause-ok g c).In_ok-send_numbers in
    let all = padding_read g.H.Packet.AnyPacket.form g.H.Store.ListStore.list (message g k) (in_its_list g k) c.bytes_by.result (counted g k) (row g k).0 (row g k).1 c.in-Padding.field-0 c.in-Padding.is in
    rw (← c.self.view_is) (on_ok_weaker c.send_padded.result (sent g k c.send_padded.new.out all) (rw (← c.self.view_is) at c.send_padded.ensures.ok))

pub returns-in-Padding-clause-err : goal.returns-in-Padding-clause-err
returns-in-Padding-clause-err g c =
    let k = (goal.at.returns-in-Padding-clause-err g c).In_ok-send_numbers in
    on_err_weaker c.send_padded.result (fails g k c.send_padded.new.out) c.send_padded.ensures.err

pub overflow_sub-bits-in-Whole : goal.overflow_sub-bits-in-Whole
overflow_sub-bits-in-Whole g c =
    let k = (goal.at.overflow_sub-bits-in-Whole g c).In_ok-send_numbers in
    few g k (whole_read g.H.Packet.AnyPacket.form g.H.Store.ListStore.list (message g k) (in_its_list g k) c.bytes_by.result (counted g k) (row g k).0 (row g k).1 c.in-Whole.is)

pub send_padded-requires-in-Whole : goal.send_padded-requires-in-Whole
send_padded-requires-in-Whole g c =
    let k = (goal.at.send_padded-requires-in-Whole g c).In_ok-send_numbers in
    rw (← c.self.view_is) (room g k (whole_read g.H.Packet.AnyPacket.form g.H.Store.ListStore.list (message g k) (in_its_list g k) c.bytes_by.result (counted g k) (row g k).0 (row g k).1 c.in-Whole.is))

pub returns-in-Whole-clause-ok : goal.returns-in-Whole-clause-ok
returns-in-Whole-clause-ok g c =
    let k = (goal.at.returns-in-Whole-clause-ok g c).In_ok-send_numbers in
    let all = whole_read g.H.Packet.AnyPacket.form g.H.Store.ListStore.list (message g k) (in_its_list g k) c.bytes_by.result (counted g k) (row g k).0 (row g k).1 c.in-Whole.is in
    rw (← c.self.view_is) (on_ok_weaker c.send_padded-in-Whole.result (sent g k c.send_padded-in-Whole.new.out all) (rw (← c.self.view_is) at c.send_padded-in-Whole.ensures.ok))

pub returns-in-Whole-clause-err : goal.returns-in-Whole-clause-err
returns-in-Whole-clause-err g c =
    let k = (goal.at.returns-in-Whole-clause-err g c).In_ok-send_numbers in
    on_err_weaker c.send_padded-in-Whole.result (fails g k c.send_padded-in-Whole.new.out) c.send_padded-in-Whole.ensures.err

pub returns-in_default-phase-clause-ok : goal.returns-in_default-phase-clause-ok
returns-in_default-phase-clause-ok g c =
    let k = (goal.at.returns-in_default-phase-clause-ok g c).In_ok-send_numbers in
    let no = c.in_default-phase in
    let is = front_read g.H.Packet.AnyPacket.form g.H.Store.ListStore.list (message g k) (in_its_list g k) c.bytes_by.result (counted g k) (row g k).0 (row g k).1 c.in_default.not-Number c.in_default.not-Length no.not-Packets no.not-Padding no.not-Whole in
    let all = is ∙ ap (headed (message g k).nid c.bytes_by.result) (sym (append-nil (labelled (row g k).0 (message g k).front))) in
    rw (← c.self.view_is) (on_ok_weaker c.send-in_default-phase.result (third g k c.send-in_default-phase.new.self [] all) c.send-in_default-phase.ensures.ok)

pub returns-in_default-phase-clause-err : goal.returns-in_default-phase-clause-err
returns-in_default-phase-clause-err g c =
    let k = (goal.at.returns-in_default-phase-clause-err g c).In_ok-send_numbers in
    on_err_weaker c.send-in_default-phase.result (fails g k c.send-in_default-phase.new.self) c.send-in_default-phase.ensures.err
