-- What is kept of a message, if more is known of what a store holds.
use Rattle.std.proofs.Common.{ℕ, Bool, List, inl, inr}
use Rattle.etcs_vars.specs.Reading.{Reading}
use Rattle.etcs_tables.specs.declared.row.Way.{Way}
use Rattle.etcs_rows.specs.declared.frames.Carrier.{Carrier}
use Rattle.etcs_sequence.specs.declared.stage.Stage.{Stage}
use Rattle.etcs_sequence.specs.declared.state.PacketsState.{PacketsState}
use Rattle.etcs_sequence.specs.Lefts.{HoldsAt}
use Rattle.etcs_packets.specs.PacketValues.{PacketValue, Form}
use Rattle.etcs_sequence.specs.declared.list.PacketList.{PacketList}
use Rattle.etcs_sequence.specs.Held.{list_holds}
use Rattle.etcs_messages.specs.declared.phase.Phase.{Phase}
use Rattle.etcs_messages.specs.declared.phase.Phase.TheVariants.{Number, Length, Front, Packets, Padding, Data, Whole}
use Rattle.etcs_messages.specs.Lefts.{MessageState, HoldsIn, HoldsBy, FrontHeld, PacketsHeld, PaddingHeld, DataHeld}
use Rattle.etcs_sequence.specs.AtOnce.{Holds}

module _ (holds more : Holds) (known : (vs : List PacketValue) (f : List ℕ) (k : List Bool) → holds vs f k → more vs f k) where
  at_known : (c : Carrier) (s : Stage) (q : Reading) → HoldsAt c s holds q → HoldsAt c s more q
  at_known c s q (vs, f, k, h, held, carried, here, e) = (vs, f, k, h, known vs f k held, carried, here, e)

  front_known : (way : Way) (nid at : ℕ) (front : List ℕ) (l : PacketsState) (q : Reading) → FrontHeld way nid at front l holds q → FrontHeld way nid at front l more q
  front_known way nid at front l q h = record { len = h.len; vars = h.vars; typed = h.typed; none = at_known l.carrier l.stage _ h.none; most = h.most; reading_is = h.reading_is; room_is = h.room_is }

  packets_known : (way : Way) (nid : ℕ) (front : List ℕ) (l : PacketsState) (q : Reading) → PacketsHeld way nid front l holds q → PacketsHeld way nid front l more q
  packets_known way nid front l q h = record { len = h.len; vars = h.vars; here = h.here; typed = h.typed; count = h.count; held = at_known l.carrier l.stage h.here h.held; most = h.most; reading_is = h.reading_is; room_is = h.room_is }

  padding_known : (way : Way) (nid : ℕ) (front : List ℕ) (padding left : ℕ) (q : Reading) → PaddingHeld way nid front holds padding left q → PaddingHeld way nid front more padding left q
  padding_known way nid front padding left q h = record {
    len = h.len;
    vars = h.vars;
    packets = h.packets;
    bits = h.bits;
    typed = h.typed;
    count = h.count;
    held = known h.packets _ _ h.held;
    carried = h.carried;
    short = h.short;
    small = h.small;
    padding_is = h.padding_is;
    most = h.most;
    reading_is = h.reading_is;
    room_is = h.room_is;
  }

  data_known : (way : Way) (nid left : ℕ) (q : Reading) → DataHeld way nid holds left q → DataHeld way nid more left q
  data_known way nid left q h = record { len = h.len; bits = h.bits; untyped = h.untyped; least = h.least; most = h.most; held = known _ _ h.bits h.held; reading_is = h.reading_is; room_is = h.room_is }

  held_known : (way : Way) (nid : ℕ) (phase : Phase) (front : List ℕ) (l : PacketsState) (padding : ℕ) (q : Reading) → HoldsBy way nid phase front l padding holds q → HoldsBy way nid phase front l padding more q
  held_known way nid Number front l padding q (z, h, e) = (z, known _ _ _ h, e)
  held_known way nid Length front l padding q (z, h, e) = (z, known _ _ _ h, e)
  held_known way nid (Front at) front l padding q (z, h) = (z, front_known way nid at front l q h)
  held_known way nid Packets front l padding q (z, h) = (z, packets_known way nid front l q h)
  held_known way nid (Padding left) front l padding q h = padding_known way nid front padding left q h
  held_known way nid (Data left) front l padding q h = data_known way nid left q h
  held_known way nid Whole front l padding q (inl h) = inl (padding_known way nid front padding 0 q h)
  held_known way nid Whole front l padding q (inr h) = inr (data_known way nid 0 q h)

module _ {P S : Type 0} (form : P → Form) (list : S → PacketList P) where
  -- what a list of packets keeps
  abbrev pub in_list : S → Holds
  in_list store = list_holds form (list store).packets.items (list store).numbers.items (list store).bits

  pub held_in_list : (holds : S → Holds) → ((store : S) (vs : List PacketValue) (f : List ℕ) (k : List Bool) → holds store vs f k → in_list store vs f k) → (s : MessageState S) (q : Reading) → HoldsIn holds s q → HoldsIn in_list s q
  held_in_list holds known s q h = held_known (holds s.store) (in_list s.store) (known s.store) s.way s.nid s.phase s.front s.left s.padding q h
