-- What a reader of telegrams holds.
use Rattle.std.proofs.Common.{◌≡◌, ℕ, ◌&&◌, Bool, List, ◌++◌, length, Some, sym, ap, subst, ◌∙◌, arith, inl, inr}
use Rattle.std.specs.Prelude.{All, map, IsTrue, nat_lt, ◌==◌}
use Rattle.std.proofs.lemmas.Bool.{and_parts, ltb-true, eqb-true}
use Rattle.std.proofs.lemmas.List.Elements.{All-nil}
use Rattle.etcs_vars.specs.declared.var.Var.{Var}
use Rattle.etcs_vars.specs.Reading.{Reading}
use Rattle.etcs_tables.specs.declared.row.Way.{Way}
use Rattle.etcs_tables.specs.declared.row.Way.TheVariants.{ToTrain}
use Rattle.etcs_rows.specs.declared.frames.Carrier.{Carrier}
use Rattle.etcs_rows.specs.Frames.{way_of}
use Rattle.etcs_packets.specs.declared.packet.Packet.{Packet}
use Rattle.etcs_packets.specs.PacketValues.{form, packet_value, IsPacket, IsMade}
use Rattle.etcs_packets.specs.PacketReadings.{readings_to, packets_reading}
use Rattle.etcs_sequence.specs.Contents.{Carries}
use Rattle.etcs_sequence.specs.Runs.{Begun}
use Rattle.etcs_reader.specs.Rests.{Goes}
use Rattle.etcs_sequence.specs.laws.ChainLaws.{chain_first}
use Rattle.etcs_sequence.specs.Labels.{labelled}
use Rattle.etcs_sequence.specs.Lefts.{left_of, ahead}
use Rattle.etcs_sequence.proofs.Begun.{begun_of, nothing_held}
use Rattle.etcs_telegram.specs.declared.store.TelegramStore.{TelegramStore}
use Rattle.etcs_telegram.specs.declared.phase.Phase.{Phase}
use Rattle.etcs_telegram.specs.declared.phase.Phase.TheVariants.{Header, Packets, Fill, Pad, Whole}
use Rattle.etcs_tables.specs.Headers.{header_row}
use Rattle.etcs_telegram.specs.Lefts.{FillBy, left_at, next_at, is_open, stands_at, HoldsBy, TelegramState, Left, next_var, HoldsIn}
use Rattle.etcs_telegram.specs.laws.RestLaws.{opens}
use Rattle.etcs_telegram.specs.Readers.{store_holds, Standing, Members}
use Rattle.etcs_telegram.proofs.SoFar.{filled_far}

module _ (s : TelegramState TelegramStore) where
  members_by : (phase : Phase) (q : Reading) (x : Var) → IsTrue (stands_at phase (length s.header) s.left) → next_at phase s.left ≡ Some x → Goes (left_at s.size phase s.left) → HoldsBy s.size phase s.header s.left (store_holds s.store) q → Standing s.store.list.packets.items s.store.list.numbers.items s.store.list.bits q
  members_by (Header at) q x stands next g (is, h) =
      let k = s.store.list in
      let (ps_is, f_is, k_is) = nothing_held form s.left.carrier s.left.stage k.packets.items k.numbers.items k.bits h in
      let both = and_parts (nat_lt at 10) ((length s.header == at) && is_open s.left) stands in
      let same = eqb-true (length s.header) at (and_parts (length s.header == at) (is_open s.left) both.1).0 in
      let less = ltb-true at 10 both.0 in
      inl (s.header, is, omega (arith, same, less), ps_is, f_is, k_is)
  members_by Packets q x stands next g (r, e, (vs, m, b, h, (vs_is, (made, (m_is, b_is))), carried, here, e')) =
      let l = s.left in
      let both = and_parts (length s.header == 10) (is_open l) stands in
      let first = chain_first (left_of l.carrier l.room l.stage) (FillBy s.size (ahead l.carrier l.room l.stage)) g in
      let begun : Begun ToTrain h m b = subst (λ (w : Way). Begun w h m b) (ap way_of (opens l both.1).0) (begun_of l.carrier l.room l.stage m b h l.stands (opens l both.1).1 first here) in
      let whole = e ∙ ap (λ (t : Reading). labelled header_row s.header ++ t) (e' ∙ ap (λ (d : Carrier). readings_to (way_of d) vs ++ h) (opens l both.1).0 ∙ ap (λ v. packets_reading v ++ h) vs_is) in
      inr (inl (s.header, h, eqb-true (length s.header) 10 both.0, whole, subst (λ (t : List Bool). Begun ToTrain h s.store.list.numbers.items t) b_is (subst (λ (t : List ℕ). Begun ToTrain h t b) m_is begun)))
  members_by (Fill left) q x stands next g h = let k = s.store.list in inr (inr (s.header, 0, h.ten, filled_far s.header k.packets.items k.numbers.items k.bits left s.left.room 0 q h, sym h.held.1.1.0))
  members_by (Pad left) q x stands next g (pad, e, h) = let k = s.store.list in inr (inr (s.header, pad, h.ten, filled_far s.header k.packets.items k.numbers.items k.bits 0 s.left.room pad q h, sym h.held.1.1.0))
  members_by Whole q x stands next g h = absurd cc

  -- its packets are whole ones
  made_by : (phase : Phase) (q : Reading) → IsTrue (stands_at phase (length s.header) s.left) → HoldsBy s.size phase s.header s.left (store_holds s.store) q → All IsMade s.store.list.packets.items × All IsPacket (map packet_value s.store.list.packets.items)
  made_by (Header at) q stands (is, h) = let k = s.store.list in subst (λ (xs : List Packet). All IsMade xs × All IsPacket (map packet_value xs)) (sym (nothing_held form s.left.carrier s.left.stage k.packets.items k.numbers.items k.bits h).0) (All-nil IsMade, All-nil IsPacket)
  made_by Packets q stands (r, e, (vs, m, b, h, (vs_is, (made, same)), carried, here, e')) =
      let open_is = opens s.left (and_parts (length s.header == 10) (is_open s.left) stands).1 in
      (made, subst (All IsPacket) vs_is (subst (λ (c : Carrier). All (Carries c) vs) open_is.0 carried))
  made_by (Fill n) q stands h = (h.held.1.0, subst (All IsPacket) h.held.0 h.carried)
  made_by (Pad n) q stands (pad, e, h) = (h.held.1.0, subst (All IsPacket) h.held.0 h.carried)
  made_by Whole q stands h = (h.held.1.0, subst (All IsPacket) h.held.0 h.carried)

  pub members_at : (q : Reading) (x : Var) → next_var s ≡ Some x → Goes (Left s) → HoldsIn store_holds s q → Members s.store.list.packets.items s.store.list.numbers.items s.store.list.bits q
  members_at q x next g h =
      let whole = made_by s.phase q s.stands h in
      (members_by s.phase q x s.stands next g h, whole.0, whole.1)
