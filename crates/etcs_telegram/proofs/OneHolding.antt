-- What a reader holds between two pieces is given by the bits that it has seen.
use Rattle.std.proofs.Common.{◌≡◌, ℕ, zero, suc, ◌+◌, ◌<◌, Bool, false, List, [], ◌∷◌, ◌++◌, length, refl, sym, ap, subst, ◌∙◌, arith, append_assoc, length-append, inl, inr}
use Rattle.std.specs.Prelude.{replicate, map, All, if◌then◌else◌}
use Rattle.etcs_vars.specs.declared.var.Var.TheVariants.{NID_PACKET, Q_DIR, L_PACKET, OTHER_DATA, FILL, PAD}
use Rattle.etcs_vars.specs.Reading.{Reading, kept}
use Rattle.etcs_vars.proofs.Apart.{cut}
use Rattle.etcs_tables.specs.declared.row.Way.TheVariants.{ToTrain}
use Rattle.etcs_packets.specs.declared.packet.Packet.{Packet}
use Rattle.etcs_packets.specs.PacketValues.{PacketValue, packet_value, IsPacket}
use Rattle.etcs_packets.proofs.OnePacket.{one_list}
use Rattle.etcs_packets.specs.PacketReadings.{frame, packets_reading}
use Rattle.etcs_sequence.specs.Runs.{Begun}
use Rattle.etcs_sequence.specs.laws.Agreement.{numbered_below}
use Rattle.etcs_sequence.specs.Labels.{labelled}
use Rattle.etcs_sequence.proofs.LabelLaws.{labelled_count, labelled_most}
use Rattle.etcs_sequence.proofs.BegunKnown.{NoPacket, packets_known, begun_unpacked, begun_known}
use Rattle.etcs_sequence.proofs.BitLaws.{bits_known}
use Rattle.etcs_sequence.proofs.OneHolding.{sent_parts, one_held}
use Rattle.etcs_telegram.specs.Telegrams.{closed_reading, TelegramLanguage}
use Rattle.etcs_tables.specs.Headers.{header_row}
use Rattle.etcs_telegram.specs.Readers.{Standing, Members, OneHolding}

-- ---- Packet 255 with bits of FILL and PAD after it.

-- no packet begins so
closed_unpacked : (t : Reading) → NoPacket ToTrain ((NID_PACKET, 255) ∷ t)
closed_unpacked t v q h e =
    let (n, r, is, less) = numbered_below v h in
    let parts = sent_parts NID_PACKET NID_PACKET 255 n t (r ++ q) (e ∙ ap (λ (u : Reading). u ++ q) is) in
    omega (arith, parts.1, less)

abbrev filled : List Bool → ℕ → Reading
filled k zeros = (NID_PACKET, 255) ∷ (kept FILL k ++ kept PAD (replicate zeros false))

fills_known : (k l : List Bool) (i j : ℕ) → kept FILL k ++ kept PAD (replicate i false) ≡ kept FILL l ++ kept PAD (replicate j false) → k ≡ l
fills_known [] [] i j e = refl
fills_known [] (b ∷ l) zero j e = absurd cc
fills_known [] (b ∷ l) (suc i) j e = let s = sent_parts PAD FILL 0 (if b then 1 else 0) (kept PAD (replicate i false)) (kept FILL l ++ kept PAD (replicate j false)) e in let v = s.0 in absurd cc
fills_known (b ∷ k) [] i zero e = absurd cc
fills_known (b ∷ k) [] i (suc j) e = let s = sent_parts FILL PAD (if b then 1 else 0) 0 (kept FILL k ++ kept PAD (replicate i false)) (kept PAD (replicate j false)) e in let v = s.0 in absurd cc
fills_known (b ∷ k) (c ∷ l) i j e =
    let s = sent_parts FILL FILL (if b then 1 else 0) (if c then 1 else 0) (kept FILL k ++ kept PAD (replicate i false)) (kept FILL l ++ kept PAD (replicate j false)) e in
    let first : ◌≡◌ {A = Reading} (kept FILL (b ∷ [])) (kept FILL (c ∷ [])) = ap (λ (n : ℕ). let r : Reading = (FILL, n) ∷ [] in r) s.1 in
    let same = bits_known FILL (b ∷ []) (c ∷ []) first in
    let rest = fills_known k l i j s.2 in
    cc

-- Q_DIR is in none of it
no_direction : (k : List Bool) (zeros n : ℕ) (t : Reading) → kept FILL k ++ kept PAD (replicate zeros false) ≡ (Q_DIR, n) ∷ t → ⊥
no_direction [] zero n t e = absurd cc
no_direction [] (suc i) n t e = let v = (sent_parts PAD Q_DIR 0 n (kept PAD (replicate i false)) t e).0 in absurd cc
no_direction (b ∷ k) i n t e = let v = (sent_parts FILL Q_DIR (if b then 1 else 0) n (kept FILL k ++ kept PAD (replicate i false)) t e).0 in absurd cc

none_filled : (k : List Bool) (zeros : ℕ) → kept FILL k ++ kept PAD (replicate zeros false) ≡ [] → k ≡ []
none_filled [] i e = refl
none_filled (b ∷ k) i e = absurd cc

filled_frame : (r : Reading) (k : List Bool) (zeros nid dir bits : ℕ) (t : Reading) → r ≡ filled k zeros → r ≡ frame nid dir bits ++ t → ⊥
filled_frame r k zeros nid dir bits t e is = no_direction k zeros dir ((L_PACKET, 23 + bits) ∷ t) (sent_parts NID_PACKET NID_PACKET 255 nid (kept FILL k ++ kept PAD (replicate zeros false)) ((Q_DIR, dir) ∷ (L_PACKET, 23 + bits) ∷ t) (sym e ∙ is)).2

-- if it is what is begun of a packet, no bit of FILL is there
filled_begun : (r : Reading) (f : List ℕ) (k l : List Bool) (zeros : ℕ) → r ≡ filled l zeros → Begun ToTrain r f k → (f ≡ []) × (k ≡ l)
filled_begun r f k l zeros e (inl (inl none, i, j)) = let two : ◌≡◌ {A = Reading} (filled l zeros) [] = sym e ∙ none in absurd cc
filled_begun r f k l zeros e (inl (inr (inl (nid, one)), i, j)) = (i, j ∙ sym (none_filled l zeros (sent_parts NID_PACKET NID_PACKET 255 nid (kept FILL l ++ kept PAD (replicate zeros false)) [] (sym e ∙ one)).2))
filled_begun r f k l zeros e (inl (inr (inr (nid, dir, both)), i, j)) = absurd (no_direction l zeros dir [] (sent_parts NID_PACKET NID_PACKET 255 nid (kept FILL l ++ kept PAD (replicate zeros false)) ((Q_DIR, dir) ∷ []) (sym e ∙ both)).2)
filled_begun r f k l zeros e (inr (inl ((nid, dir, n, q, is, b, d, w), i))) = absurd (filled_frame r l zeros nid dir n q e is)
filled_begun r f k l zeros e (inr (inr ((nid, dir, n, is, b, d), i))) = absurd (filled_frame r l zeros nid dir n (kept OTHER_DATA k) e is)

-- ---- The header.

-- some of it isn't all of it
header_apart : (far : Reading) (some all : List ℕ) (t : Reading) → far ≡ labelled header_row some → length some < 10 → far ≡ labelled header_row all ++ t → length all ≡ 10 → ⊥
header_apart far some all t e less e' ten =
    let same = ap (λ (u : Reading). length u) (sym e ∙ e') in
    omega (arith, less, ten, same, labelled_most header_row some, length-append (labelled header_row all) t, labelled_count header_row all ten)

after_known : (far : Reading) (h h' : List ℕ) (t t' : Reading) → far ≡ labelled header_row h ++ t → length h ≡ 10 → far ≡ labelled header_row h' ++ t' → length h' ≡ 10 → t ≡ t'
after_known far h h' t t' e ten e' ten' =
    let long = labelled_count header_row h ten in
    let long' = labelled_count header_row h' ten' in
    (cut (labelled header_row h) (labelled header_row h') t t' (long ∙ sym long') (sym e ∙ e')).1

-- ---- All that is held.

closed_is : (vs : List PacketValue) (k : List Bool) (zeros : ℕ) → closed_reading vs ++ (kept FILL k ++ kept PAD (replicate zeros false)) ≡ packets_reading vs ++ filled k zeros
closed_is vs k zeros = append_assoc (packets_reading vs) ((NID_PACKET, 255) ∷ []) (kept FILL k ++ kept PAD (replicate zeros false))

members_known : (far : Reading) (ps qs : List Packet) (f g : List ℕ) (k l : List Bool) → All IsPacket (map packet_value ps) → All IsPacket (map packet_value qs) → Standing ps f k far → Standing qs g l far → (map packet_value ps ≡ map packet_value qs) × (f ≡ g) × (k ≡ l)
members_known far ps qs f g k l hp hq (inl (h, e, less, a, b, c)) (inl (h', e', less', a', b', c')) = (ap (map packet_value) (a ∙ sym a'), b ∙ sym b', c ∙ sym c')
members_known far ps qs f g k l hp hq (inl (h, e, less, a, b, c)) (inr (inl (h', r, ten, e', begun))) = absurd (header_apart far h h' (packets_reading (map packet_value qs) ++ r) e less e' ten)
members_known far ps qs f g k l hp hq (inl (h, e, less, a, b, c)) (inr (inr (h', z, ten, e', none))) = absurd (header_apart far h h' (closed_reading (map packet_value qs) ++ (kept FILL l ++ kept PAD (replicate z false))) e less e' ten)
members_known far ps qs f g k l hp hq (inr (inl (h', r, ten, e', begun))) (inl (h, e, less, a, b, c)) = absurd (header_apart far h h' (packets_reading (map packet_value ps) ++ r) e less e' ten)
members_known far ps qs f g k l hp hq (inr (inr (h', z, ten, e', none))) (inl (h, e, less, a, b, c)) = absurd (header_apart far h h' (closed_reading (map packet_value ps) ++ (kept FILL k ++ kept PAD (replicate z false))) e less e' ten)
members_known far ps qs f g k l hp hq (inr (inl (h, r, ten, e, begun))) (inr (inl (h', r', ten', e', begun'))) =
    let vs = map packet_value ps in
    let us = map packet_value qs in
    let t = after_known far h h' (packets_reading vs ++ r) (packets_reading us ++ r') e ten e' ten' in
    let p = packets_known ToTrain vs us r r' hp hq (begun_unpacked ToTrain r f k begun) (begun_unpacked ToTrain r' g l begun') t in
    let b = begun_known ToTrain r' f g k l (subst (λ (x : Reading). Begun ToTrain x f k) p.1 begun) begun' in
    (p.0, b.0, b.1)
members_known far ps qs f g k l hp hq (inr (inl (h, r, ten, e, begun))) (inr (inr (h', z, ten', e', none))) =
    let vs = map packet_value ps in
    let us = map packet_value qs in
    let t = after_known far h h' (packets_reading vs ++ r) (closed_reading us ++ (kept FILL l ++ kept PAD (replicate z false))) e ten e' ten' in
    let p = packets_known ToTrain vs us r (filled l z) hp hq (begun_unpacked ToTrain r f k begun) (closed_unpacked (kept FILL l ++ kept PAD (replicate z false))) (t ∙ closed_is us l z) in
    let b = filled_begun r f k l z p.1 begun in
    (p.0, b.0 ∙ sym none, b.1)
members_known far ps qs f g k l hp hq (inr (inr (h, z, ten, e, none))) (inr (inl (h', r, ten', e', begun))) =
    let vs = map packet_value ps in
    let us = map packet_value qs in
    let t = after_known far h h' (closed_reading vs ++ (kept FILL k ++ kept PAD (replicate z false))) (packets_reading us ++ r) e ten e' ten' in
    let p = packets_known ToTrain vs us (filled k z) r hp hq (closed_unpacked (kept FILL k ++ kept PAD (replicate z false))) (begun_unpacked ToTrain r g l begun) (sym (closed_is vs k z) ∙ t) in
    let b = filled_begun r g l k z (sym p.1) begun in
    (p.0, none ∙ sym b.0, sym b.1)
members_known far ps qs f g k l hp hq (inr (inr (h, z, ten, e, none))) (inr (inr (h', z', ten', e', none'))) =
    let vs = map packet_value ps in
    let us = map packet_value qs in
    let t = after_known far h h' (closed_reading vs ++ (kept FILL k ++ kept PAD (replicate z false))) (closed_reading us ++ (kept FILL l ++ kept PAD (replicate z' false))) e ten e' ten' in
    let p = packets_known ToTrain vs us (filled k z) (filled l z') hp hq (closed_unpacked (kept FILL k ++ kept PAD (replicate z false))) (closed_unpacked (kept FILL l ++ kept PAD (replicate z' false))) (sym (closed_is vs k z) ∙ t ∙ closed_is us l z') in
    let rest = (sent_parts NID_PACKET NID_PACKET 255 255 (kept FILL k ++ kept PAD (replicate z false)) (kept FILL l ++ kept PAD (replicate z' false)) p.1).2 in
    (p.0, none ∙ sym none', fills_known k l z z' rest)

pub one_holding : OneHolding
one_holding size b ps qs f g k l part part' taken taken' h i =
    let (far, number, count) = one_held (TelegramLanguage size) (Members ps f k) (Members qs g l) b part part' taken taken' h i in
    let (stand, made, carried) = h.members in
    let (stand', made', carried') = i.members in
    let parts = members_known i.far ps qs f g k l carried carried' (subst (Standing ps f k) far stand) stand' in
    (one_list ps qs made made' parts.0, parts.1, parts.2, number, count)
