-- What a view reads, and what is seen of it.
use Rattle.std.proofs.Common.{◌≡◌, ◌<◌, ℕ, ◌+◌, ◌-◌, ◌%◌, ◌^◌, ◌≤◌, Bool, false, List, [], ◌∷◌, ◌++◌, length, take, replicate, Some, None, refl, sym, ap, subst, ◌∙◌, arith, append-nil, append_assoc, inl, inr}
use Rattle.std.specs.Prelude.{Option}
use Rattle.std.proofs.Math.Nat.{mod-eq_of_lt}
use Rattle.std.proofs.lemmas.Bool.{cases_lt}
use Rattle.std.proofs.lemmas.List.{length-append, length-take, take_all, take_at, take-take, nil_from_length}
use Rattle.etcs_bits.specs.Bits.{part}
use Rattle.etcs_bits.proofs.Lists.{part-append_right}
use Rattle.etcs_vars.specs.declared.var.Var.{Var}
use Rattle.etcs_vars.specs.declared.var.Var.TheVariants.{FILL, PAD}
use Rattle.etcs_vars.specs.Walking.{Residual, Refuses}
use Rattle.etcs_vars.specs.Reading.{Reading, spelled, kept, Viable, Owner}
use Rattle.etcs_vars.proofs.Apart.{apart}
use Rattle.etcs_vars.proofs.Languages.{Same}
use Rattle.etcs_vars.proofs.Outcomes.{viable_front}
use Rattle.etcs_vars.specs.laws.Spellings.{spelled-append}
use Rattle.etcs_rows.specs.declared.frames.Carrier.TheVariants as carrier
use Rattle.etcs_rows.proofs.LengthLemmas.{length-spelled}
use Rattle.etcs_tables.specs.declared.row.Way.TheVariants.{ToTrain}
use Rattle.etcs_packets.specs.declared.packet.Packet.{Packet}
use Rattle.etcs_packets.specs.PacketValues.{PacketValue}
use Rattle.etcs_packets.specs.PacketReadings.{packet_reading, packets_reading}
use Rattle.etcs_packets.specs.laws.PacketReadings.{packet_bits}
use Rattle.etcs_sequence.specs.Contents.{closing}
use Rattle.etcs_sequence.specs.laws.Agreement.{some_bits}
use Rattle.etcs_sequence.specs.AtOnce.{Holds}
use Rattle.etcs_sequence.specs.declared.seen.PacketCount.{PacketCount}
use Rattle.etcs_sequence.specs.laws.BitLaws.{bits_spelled}
use Rattle.etcs_sequence.specs.Refs.{ArePackets}
use Rattle.etcs_telegram.specs.declared.size.Size.{Size}
use Rattle.etcs_telegram.specs.declared.phase.Phase.{Phase}
use Rattle.etcs_telegram.specs.declared.view.ViewFault.{ViewFault}
use Rattle.etcs_telegram.specs.declared.view.ViewFault.TheVariants.{Refused}
use Rattle.etcs_telegram.specs.Telegrams.{header_of, header_reading, HeaderValue, TelegramValue, TelegramLanguage, ReadsAs, closed_reading, user_bits, pad_bits, packet_room}
use Rattle.etcs_telegram.specs.Headers.{IsHeaderNumbers}
use Rattle.etcs_telegram.specs.Lefts.{left_at, Filled, HoldsBy, TelegramState, Left, next_var, HoldsIn}
use Rattle.etcs_telegram.specs.laws.RestLaws.{ended_whole}
use Rattle.etcs_telegram.specs.Views.{ViewIn, OneRefusal}
use Rattle.etcs_telegram.proofs.Encoding.{room_more, closed_length, user_small}
use Rattle.etcs_telegram.proofs.Finished.{whole_reads}
use Rattle.etcs_telegram.proofs.HeaderLemmas.{header_length}
use Rattle.etcs_rows.proofs.SameReadings.{owner_along, refuses_along, owner_same}
use Rattle.etcs_telegram.proofs.Spellings.{regular, one_value, whole_length}

-- the fault has the bit
pub refused_same : (L : Reading → Type 0) (b : List Bool) (i j : ℕ) (x y : Var) → ◌≡◌ {A = ViewFault} (Refused i x) (Refused j y) → Refuses L b i x → Refuses L b j y
refused_same L b i j x y e r =
    let bit : i ≡ j = cc in
    let holder : x ≡ y = cc in
    subst (λ (v : Var). Refuses L b j v) holder (subst (λ (n : ℕ). Refuses L b n x) bit r)

-- a bit that is refused of what is left, if no bit is there, is refused of a telegram
pub refused_bit : (size : Size) (L : Reading → Type 0) → Same L (TelegramLanguage size) → (front b : List Bool) (i n count : ℕ) (x : Var) → front ≡ [] → count ≡ 0 → i ≡ count + n → Refuses L (front ++ b) (length front + n) x → Refuses (TelegramLanguage size) b i x
refused_bit size L same front b i n count x none start place r =
    let is : length front + n ≡ i = omega (arith, ap (λ (u : List Bool). length u) none, start, place) in
    let all = refuses_along L (TelegramLanguage size) same (front ++ b) i x (subst (λ (k : ℕ). Refuses L (front ++ b) k x) is r) in
    subst (λ (u : List Bool). Refuses (TelegramLanguage size) (u ++ b) i x) none all

-- ---- All bits are taken, and nothing comes next.

-- each packet has bits
packets_long : (vs : List PacketValue) → length vs ≤ length (spelled (packets_reading vs))
packets_long [] = omega arith
packets_long (v ∷ vs) = omega (arith, packets_long vs, length-spelled (packet_reading v) (packets_reading vs), packet_bits v, some_bits ToTrain v)

-- after all bits of a telegram no more are expected
none_wanted : (size : Size) (b : List Bool) (x : Var) → length b ≡ user_bits size + pad_bits size → Owner (TelegramLanguage size) b x → ⊥
none_wanted size b x long o =
    let (r, c, l, e) = o.viable in
    let none : c ≡ [] = nil_from_length c (omega (arith, ap (λ (u : List Bool). length u) e, length-append b c, whole_length size r l, long)) in
    o.open_end (r, l, e ∙ ap (λ (u : List Bool). b ++ u) none ∙ append-nil b)

-- what is read of a telegram's bits, with packets that are counted
abbrev pub counts : PacketCount Packet → Holds
counts store vs f k = length vs % 2 ^ 64 ≡ store.packets

whole_seen : (size : Size) (b : List Bool) (header : List ℕ) (room : ℕ) (store : PacketCount Packet) (q : Reading) → TelegramLanguage size q → Filled header (counts store) room 0 (pad_bits size) q → spelled q ≡ b → ViewIn size b (header_of header) store.packets (user_bits size - room) × IsHeaderNumbers header × (room ≤ user_bits size)
whole_seen size b header room store q l f e =
    let (reads, numbers) = whole_reads size header f.packets f.fill q f.ten f.carried l f.reading_is in
    let t : TelegramValue = record { size = size; header = header_of header; packets = f.packets; fill = f.fill } in
    let bits : 50 + length (spelled (closed_reading f.packets)) + room ≡ user_bits size = omega (arith, header_length (header_of header), reads.user_bits_is, f.room_is) in
    let few : length f.packets < 2 ^ 64 = omega (arith, packets_long f.packets, closed_length f.packets, bits, user_small size) in (
      record {
        telegram = t;
        reading = q;
        reads = (refl, reads);
        bits = e;
        header_is = refl;
        packets_are = sym (mod-eq_of_lt few) ∙ f.held;
        end_is = omega (arith, bits);
      },
      numbers,
      omega (arith, bits),
    )

-- if these bits of all are taken, by the variables q
pub record Passed (size : Size) (L : Reading → Type 0) (b : List Bool) (t : TelegramState (PacketCount Packet)) (n : ℕ) (front beyond : List Bool) (q : Reading) : Type 0 where
  pub size_is : t.size ≡ size
  pub within : n ≤ length b
  pub none : front ≡ []
  pub residual : Residual L q (Left t)
  pub held : HoldsIn counts t q
  pub bits : spelled q ++ beyond ≡ front ++ take n b
  pub more : (x : Var) → next_var t ≡ Some x → (n ≡ length b) × Owner L (front ++ take n b) x

abbrev pub Seen : Size → List Bool → TelegramState (PacketCount Packet) → Type 0
Seen size b t = ViewIn size b (header_of t.header) t.store.packets (user_bits size - t.left.room) × IsHeaderNumbers t.header × (t.left.room ≤ user_bits size)

module _ (size : Size) (L : Reading → Type 0) (same : Same L (TelegramLanguage size)) (b : List Bool) (long : length b ≡ user_bits size + pad_bits size) where
  pub all_seen : (t : TelegramState (PacketCount Packet)) (n : ℕ) (front beyond : List Bool) (q : Reading) → Passed size L b t n front beyond q → Seen size b t
  all_seen t n front beyond q p = by_next (next_var t) refl
    where
      taken : spelled q ++ beyond ≡ take n b
      taken = p.bits ∙ ap (λ (u : List Bool). u ++ take n b) p.none

      by_next : (o : Option Var) → next_var t ≡ o → Seen size b t
      by_next (Some x) e =
          let (all, o) = p.more x e in
          let is : front ++ take n b ≡ b = ap (λ (u : List Bool). u ++ take n b) p.none ∙ take_all n b (omega (arith, all)) in
          absurd (none_wanted size b x long (subst (λ (u : List Bool). Owner (TelegramLanguage size) u x) is (owner_along L (TelegramLanguage size) same (front ++ take n b) x o)))
      by_next None e =
          let whole = ended_whole t e in
          let f : Filled t.header (counts t.store) t.left.room 0 (pad_bits size) q = subst (λ (s : Size). Filled t.header (counts t.store) t.left.room 0 (pad_bits s) q) p.size_is (subst (λ (w : Phase). HoldsBy t.size w t.header t.left (counts t.store) q) whole p.held) in
          let d = subst (λ (w : Phase). Residual L q (left_at t.size w t.left)) whole p.residual in
          let l : TelegramLanguage size q = subst (TelegramLanguage size) (append-nil q) ((same (q ++ [])).0 (d.from [] refl)) in
          let sum = ap (λ (u : List Bool). length u) taken ∙ length-take n b in
          let le = p.within in
          let rest : beyond ≡ [] = nil_from_length beyond (omega (arith, sum, length-append (spelled q) beyond, whole_length size q l, long, le)) in
          let is : spelled q ≡ b = sym (append-nil (spelled q)) ∙ ap (λ (u : List Bool). spelled q ++ u) (sym rest) ∙ taken ∙ take_all n b (omega (arith, sum, length-append (spelled q) beyond, whole_length size q l, long, le)) in
          whole_seen size b t.header t.left.room t.store q l f is

-- ---- What is seen.

module _ (size : Size) (b : List Bool) (header : HeaderValue) (packets end : ℕ) (v : ViewIn size b header packets end) where
  -- the bits spell no other telegram
  pub seen_one : (t : TelegramValue) (r : Reading) → ReadsAs size t r → spelled r ≡ b → t ≡ v.telegram
  seen_one t r (same, reads) bits =
      let reg = regular size in
      let lt : TelegramLanguage size r = (t, (same, reads)) in
      let lv : TelegramLanguage size v.reading = (v.telegram, v.reads) in
      let both = apart r v.reading [] [] (reg.agree r v.reading lt lv) (reg.fit r lt) (reg.fit v.reading lv) (append-nil (spelled r) ∙ bits ∙ sym v.bits ∙ sym (append-nil (spelled v.reading))) in
      one_value t v.telegram r (same ∙ sym v.reads.0) reads (rw both.0 v.reads.1)

  -- its parts
  seen_parts : b ≡ ((spelled (header_reading v.telegram.header) ++ spelled (closed_reading v.telegram.packets)) ++ v.telegram.fill) ++ replicate (pad_bits v.telegram.size) false
  seen_parts =
      let h = header_reading v.telegram.header in
      let c = closed_reading v.telegram.packets in
      let f = v.telegram.fill in
      let z = replicate (pad_bits v.telegram.size) false in
      sym v.bits ∙ ap spelled v.reads.1.reading_is ∙ spelled-append ((h ++ c) ++ kept FILL f) (kept PAD z) ∙ ap (λ (u : List Bool). u ++ spelled (kept PAD z)) (spelled-append (h ++ c) (kept FILL f) ∙ ap (λ (u : List Bool). u ++ spelled (kept FILL f)) (spelled-append h c) ∙ ap (λ (u : List Bool). (spelled h ++ spelled c) ++ u) (bits_spelled FILL f refl)) ∙ ap (λ (u : List Bool). ((spelled h ++ spelled c) ++ f) ++ u) (bits_spelled PAD z refl)

  front_long : length (spelled (header_reading v.telegram.header) ++ spelled (closed_reading v.telegram.packets)) ≡ end
  front_long = length-append (spelled (header_reading v.telegram.header)) (spelled (closed_reading v.telegram.packets)) ∙ ap (λ (n : ℕ). n + length (spelled (closed_reading v.telegram.packets))) (header_length v.telegram.header) ∙ v.end_is

  pub seen_end : (end + length v.telegram.fill ≡ user_bits size) × (50 + 8 ≤ end)
  seen_end =
      let u : user_bits v.telegram.size ≡ user_bits size = ap user_bits v.reads.0 in
      (omega (arith, v.reads.1.user_bits_is, header_length v.telegram.header, v.end_is, u), omega (arith, v.end_is, closed_length v.telegram.packets))

  pub seen_fill : part end (user_bits size - end) b ≡ v.telegram.fill
  seen_fill =
      let x = spelled (header_reading v.telegram.header) ++ spelled (closed_reading v.telegram.packets) in
      let z = replicate (pad_bits v.telegram.size) false in
      let n : user_bits size - end ≡ length v.telegram.fill = omega (arith, seen_end.0) in
      ap (λ (u : List Bool). part end (user_bits size - end) u) (seen_parts ∙ append_assoc x v.telegram.fill z) ∙ part-append_right x (v.telegram.fill ++ z) end 0 (user_bits size - end) (omega (arith, front_long)) ∙ take_at v.telegram.fill z (user_bits size - end) (sym n)

  -- the packets and what follows them
  pub seen_packets : (c : List Bool) × (part 50 (packet_room size) b ≡ spelled (packets_reading v.telegram.packets) ++ c)
  seen_packets =
      let h = spelled (header_reading v.telegram.header) in
      let p = spelled (packets_reading v.telegram.packets) in
      let e = spelled (closing carrier.Telegram) in
      let f = v.telegram.fill in
      let z = replicate (pad_bits v.telegram.size) false in
      let closed : spelled (closed_reading v.telegram.packets) ≡ p ++ e = spelled-append (packets_reading v.telegram.packets) (closing carrier.Telegram) in
      let whole : b ≡ h ++ ((p ++ (e ++ f)) ++ z) = seen_parts ∙ ap (λ (u : List Bool). ((h ++ u) ++ f) ++ z) closed ∙ ap (λ (u : List Bool). u ++ z) (append_assoc h (p ++ e) f ∙ ap (λ (u : List Bool). h ++ u) (append_assoc p e f)) ∙ append_assoc h (p ++ (e ++ f)) z in
      let n : length (p ++ (e ++ f)) ≡ packet_room size = (let q = ap (λ (u : List Bool). length u) closed in omega (arith, length-append p (e ++ f), length-append e f, length-append p e, q, v.end_is, seen_end.0, room_more size)) in (
        e ++ f,
        ap (λ (u : List Bool). part 50 (packet_room size) u) whole ∙ part-append_right h ((p ++ (e ++ f)) ++ z) 50 0 (packet_room size) (omega (arith, header_length v.telegram.header)) ∙ take_at (p ++ (e ++ f)) z (packet_room size) n,
      )

  pub seen_are : ArePackets packets (part 50 (packet_room size) b)
  seen_are = (v.telegram.packets, seen_packets.0, v.reads.1.packets_hold, v.packets_are, seen_packets.1)

  -- as many bits as the container has
  pub seen_long : length b ≡ user_bits size + pad_bits size
  seen_long = ap (λ (u : List Bool). length u) (sym v.bits) ∙ whole_length size v.reading (v.telegram, v.reads)

-- ---- One refused bit.

none_earlier : (L : Reading → Type 0) (b : List Bool) (i j : ℕ) (x y : Var) → Refuses L b i x → Refuses L b j y → i < j → ⊥
none_earlier L b i j x y f g lt =
    let v = viable_front L (i + 1) (take j b) g.owned.viable in
    f.blocked (subst (λ (t : List Bool). Viable L t) (take-take (i + 1) j b (omega (arith, lt))) v)

pub one_refusal : OneRefusal
one_refusal size b i j x y f g =
    let L = TelegramLanguage size in
    let same : i ≡ j = (elim (cases_lt i j) [
      | inl lt ↦ absurd (none_earlier L b i j x y f g lt)
      | inr ge ↦ elim (cases_lt j i) [ inl lt ↦ absurd (none_earlier L b j i y x g f lt) | inr le ↦ omega (arith, ge, le) ]
    ]) in
    (same, owner_same L (take j b) y x g.owned (subst (λ (k : ℕ). Owner L (take k b) x) same f.owned))
