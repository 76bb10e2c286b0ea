-- The variables so far are those that the fields say.
use Rattle.std.proofs.Common.{◌≡◌, ℕ, ◌-◌, ◌≤◌, Bool, List, ◌++◌, length, Some, refl, ap, ◌∙◌, arith}
use Rattle.std.specs.Prelude.{IsTrue, map, ◌==◌}
use Rattle.std.proofs.lemmas.Bool.{and_parts, eqb-true}
use Rattle.std.proofs.lemmas.List.{length-append}
use Rattle.etcs_vars.specs.declared.var.Var.{Var}
use Rattle.etcs_vars.specs.declared.var.Var.TheVariants.{FILL}
use Rattle.etcs_vars.specs.Reading.{Reading, spelled}
use Rattle.etcs_vars.specs.laws.Spellings.{spelled-append}
use Rattle.etcs_packets.specs.declared.packet.Packet.{Packet}
use Rattle.etcs_packets.specs.PacketValues.{form, packet_value}
use Rattle.etcs_rows.specs.declared.frames.Carrier.{Carrier}
use Rattle.etcs_rows.specs.Frames.{way_of}
use Rattle.etcs_reader.specs.Rests.{Goes}
use Rattle.etcs_sequence.specs.AtOnce.{Holds}
use Rattle.etcs_sequence.specs.laws.ChainLaws.{chain_first}
use Rattle.etcs_sequence.specs.Labels.{labelled}
use Rattle.etcs_sequence.proofs.LabelLaws.{length-widths, labelled_widths}
use Rattle.etcs_sequence.specs.Lefts.{left_of, ahead}
use Rattle.etcs_sequence.specs.Held.{list_holds}
use Rattle.etcs_sequence.specs.Progress.{asks_memory, asked_from}
use Rattle.etcs_sequence.proofs.Asking.{asked_after, asks_anywhere, packets_ask}
use Rattle.etcs_sequence.proofs.Holding.{packets_far}
use Rattle.etcs_telegram.specs.declared.store.TelegramStore.{TelegramStore}
use Rattle.etcs_telegram.specs.declared.phase.Phase.{Phase}
use Rattle.etcs_telegram.specs.declared.phase.Phase.TheVariants.{Header, Packets, Fill, Pad, Whole}
use Rattle.etcs_telegram.specs.Telegrams.{pad_bits, closed_reading}
use Rattle.etcs_tables.specs.Headers.{header_row}
use Rattle.etcs_telegram.specs.Phases.{beyond_header}
use Rattle.etcs_telegram.specs.Lefts.{FillBy, left_at, next_at, HoldsBy, Filled, stands_at, is_open, may_ask, TelegramState, Left, next_var, MayAsk, HoldsIn}
use Rattle.etcs_telegram.specs.laws.RestLaws.{opens}
use Rattle.etcs_telegram.specs.Readers.{store_holds, far_at, so_far}

-- those with FILL and PAD after packet 255
pub filled_far : (header : List ℕ) (ps : List Packet) (f : List ℕ) (k : List Bool) (left room pad : ℕ) (q : Reading) → Filled header (list_holds form ps f k) room left pad q → q ≡ labelled header_row header ++ beyond_header (closed_reading (map packet_value ps)) k pad
filled_far header ps f k left room pad q h =
    let (vs_is, (made, (m_is, l_is))) = h.held in
    h.reading_is ∙ rw (vs_is, l_is) refl

-- all of them
far_by : (phase : Phase) (s : TelegramState TelegramStore) (q : Reading) → Goes (left_at s.size phase s.left) → HoldsBy s.size phase s.header s.left (store_holds s.store) q → q ≡ far_at phase s
far_by (Header at) s q g h = h.0
far_by Packets s q g (r, e, h) =
    let l = s.left in
    let k = s.store.list in
    let first = chain_first (left_of l.carrier l.room l.stage) (FillBy s.size (ahead l.carrier l.room l.stage)) g in
    e ∙ ap (λ (t : Reading). labelled header_row s.header ++ t) (packets_far form l.carrier l.room l.stage k.packets.items k.numbers.items k.bits r first h)
far_by (Fill left) s q g h = let k = s.store.list in filled_far s.header k.packets.items k.numbers.items k.bits left s.left.room 0 q h
far_by (Pad left) s q g (pad, e, h) =
    let k = s.store.list in
    let same : pad ≡ pad_bits s.size - left = omega (arith, e) in
    rw same at (filled_far s.header k.packets.items k.numbers.items k.bits 0 s.left.room pad q h)
far_by Whole s q g h = let k = s.store.list in filled_far s.header k.packets.items k.numbers.items k.bits 0 s.left.room (pad_bits s.size) q h

pub far_is : (s : TelegramState TelegramStore) (q : Reading) → Goes (Left s) → HoldsIn store_holds s q → q ≡ so_far s
far_is s q g h = far_by s.phase s q g h

-- ---- How long they are when memory may be asked for.

-- ten numbers of the header take 50 bits
front_long : (header : List ℕ) (rest q : Reading) → length header ≡ 10 → q ≡ labelled header_row header ++ rest → 50 ≤ length (spelled q)
front_long header rest q ten e =
    let h = labelled header_row header in
    let all = ap (λ (t : Reading). length (spelled t)) e ∙ ap length (spelled-append h rest) ∙ length-append (spelled h) (spelled rest) in
    omega (arith, all, length-widths h ∙ labelled_widths header_row header ten)

module _ {S : Type 0} (holds : S → Holds) (s : TelegramState S) (q : Reading) where
  long_by : (phase : Phase) → IsTrue (stands_at phase (length s.header) s.left) → IsTrue (may_ask phase s.left) → HoldsBy s.size phase s.header s.left (holds s.store) q → 50 ≤ length (spelled q)
  long_by (Header at) stands ask h = absurd cc
  long_by Packets stands ask (r, e, h) = front_long s.header r q (eqb-true (length s.header) 10 (and_parts (length s.header == 10) (is_open s.left) stands).0) e
  long_by (Fill left) stands ask h = front_long s.header (beyond_header (closed_reading h.packets) h.fill 0) q h.ten h.reading_is
  long_by (Pad left) stands ask h = absurd cc
  long_by Whole stands ask h = absurd cc

  pub far_long : MayAsk s → HoldsIn holds s q → 50 ≤ length (spelled q)
  far_long ask h = long_by s.phase s.stands ask h

  asks_by : (phase : Phase) (x : Var) → IsTrue (stands_at phase (length s.header) s.left) → next_at phase s.left ≡ Some x → Goes (left_at s.size phase s.left) → IsTrue (may_ask phase s.left) → HoldsBy s.size phase s.header s.left (holds s.store) q → IsTrue (asks_memory x) × (asked_from x ≤ length (spelled q))
  asks_by (Header at) x stands e g ask h = absurd cc
  asks_by Packets x stands e g ask (r, is, h) =
      let l = s.left in
      let asks = packets_ask l.carrier l.room l.stage (holds s.store) r ask h (chain_first (left_of l.carrier l.room l.stage) (FillBy s.size (ahead l.carrier l.room l.stage)) g) x e in
      let none : asked_after (way_of l.carrier) ≡ 0 = ap (λ (c : Carrier). asked_after (way_of c)) (opens l (and_parts (length s.header == 10) (is_open l) stands).1).0 in
      let first = labelled header_row s.header in
      let long = ap (λ (t : Reading). length (spelled t)) is ∙ ap length (spelled-append first r) ∙ length-append (spelled first) (spelled r) in
      (asks.0, omega (arith, asks.1, none, long))
  asks_by (Fill left) x stands e g ask h = asks_anywhere (length (spelled q)) x FILL refl refl cc
  asks_by (Pad left) x stands e g ask h = absurd cc
  asks_by Whole x stands e g ask h = absurd cc

  -- the variable that comes next there asks for it
  pub next_asks : (x : Var) → next_var s ≡ Some x → Goes (Left s) → MayAsk s → HoldsIn holds s q → IsTrue (asks_memory x) × (asked_from x ≤ length (spelled q))
  next_asks x e g ask h = asks_by s.phase x s.stands e g ask h
