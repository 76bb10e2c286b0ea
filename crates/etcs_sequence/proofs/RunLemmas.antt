-- Packets that lie whole in a piece, one after another.
use Rattle.std.proofs.Common.{◌≡◌, ℕ, ◌+◌, ◌-◌, ◌/◌, ◌%◌, ◌^◌, ◌≤◌, ◌<◌, Bool, true, ◌&&◌, List, [], ◌∷◌, ◌++◌, length, None, refl, sym, ap, subst, ◌∙◌, arith, append-nil}
use Rattle.std.specs.Prelude.{IsTrue}
use Rattle.std.proofs.lemmas.Bool.{le-leb}
use Rattle.std.proofs.lemmas.List.Elements.{All-push}
use Rattle.etcs_bits.specs.Bits.{num, part}
use Rattle.etcs_bits.specs.NextBits.{AreNext}
use Rattle.etcs_bits.proofs.ByteBits.{num_low}
use Rattle.etcs_bits.proofs.Lists.{length-part, part-add}
use Rattle.etcs_vars.specs.declared.var.Var.TheVariants.{NID_PACKET, NID_VBCMK, OTHER_DATA}
use Rattle.etcs_vars.specs.Vars.{admits}
use Rattle.etcs_vars.specs.Reading.{Reading, spelled}
use Rattle.etcs_vars.specs.Reading as sent
use Rattle.etcs_vars.proofs.Prefixes.{admits_by_first}
use Rattle.etcs_vars.proofs.Sent.{length-sent}
use Rattle.etcs_vars.specs.laws.Spellings.{spelled-append}
use Rattle.etcs_tables.specs.declared.row.Way.{Way}
use Rattle.etcs_tables.specs.declared.row.Way.TheVariants.{ToTrain, ToTrack}
use Rattle.etcs_tables.specs.Frames.{frame_bits, is_marker}
use Rattle.etcs_rows.specs.declared.frames.Carrier.{Carrier}
use Rattle.etcs_rows.specs.declared.frames.Carrier.TheVariants.{Telegram, Message}
use Rattle.etcs_rows.specs.Frames.{way_of}
use Rattle.etcs_flat.specs.Others.{other_fault}
use Rattle.etcs_packets.specs.PacketValues.{PacketValue, marker, kept, IsPacketTo}
use Rattle.etcs_packets.specs.PacketReadings.{in_frame, reading_to, readings_to}
use Rattle.etcs_packets.specs.laws.PacketReadings.{bits_are}
use Rattle.etcs_sequence.specs.declared.run.Frame.{Frame}
use Rattle.etcs_sequence.specs.Contents.{closing, Fills, Carries}
use Rattle.etcs_sequence.specs.AtOnce.{FrameAt, Holds, IsFrameIn, WholeAt, RunAt, RunTo, ClosesAt}
use Rattle.etcs_sequence.specs.laws.Others.{kept_parts, kept_framed}
use Rattle.etcs_sequence.specs.laws.RunSteps.{both_length, fills_before, framed_carried}
use Rattle.etcs_sequence.proofs.Carried.{frame_spelled}
use Rattle.etcs_sequence.proofs.PacketLemmas.{packets_push}
use Rattle.etcs_sequence.proofs.Wholes.{spelled_kept}

-- ---- What a word begins with.

-- its first bits
first_bits : (word at count : ℕ) (xs : List Bool) → AreNext word xs at → count ≤ 57 → at + count ≤ length xs → num count (word / 2 ^ (64 - count)) ≡ part at count xs
first_bits word at count xs next most inside =
    let whole : 0 + count ≡ count = omega arith in
    let here : at + 0 ≡ at = omega arith in
    let e = next 0 count (omega (arith, most)) (omega (arith, inside)) in
    ap (λ (k : ℕ). num count (word / 2 ^ (64 - k))) (sym whole) ∙ e ∙ ap (λ (k : ℕ). part k count xs) here

-- the frame in them
pub word_frame : (way : Way) (word at : ℕ) (xs : List Bool) (f : Frame) → AreNext word xs at → IsFrameIn way word f → frame_bits way ≤ f.len → at + f.len ≤ length xs → FrameAt way f.nid f.dir f.len at xs
word_frame ToTrain word at xs f next (nid, dir, len) least within =
    let number = first_bits word at 8 xs next (omega arith) (omega (arith, least, within)) in
    let direction = next 8 2 (omega arith) (omega (arith, least, within)) in
    let long = next 10 13 (omega arith) (omega (arith, least, within)) in
    record {
      least = least;
      number = ap (num 8) nid ∙ number;
      direction = append-nil (num 2 f.dir) ∙ ap (num 2) dir ∙ num_low 2 (word / 2 ^ 54 % 4) (word / 2 ^ 54) (omega arith) ∙ direction;
      long = ap (num 13) len ∙ num_low 13 (word / 2 ^ 41 % 2 ^ 13) (word / 2 ^ 41) (omega arith) ∙ long;
    }
word_frame ToTrack word at xs f next (nid, dir, len) least within =
    let number = first_bits word at 8 xs next (omega arith) (omega (arith, least, within)) in
    let long = next 8 13 (omega arith) (omega (arith, least, within)) in
    record {
      least = least;
      number = ap (num 8) nid ∙ number;
      direction = refl;
      long = ap (num 13) len ∙ num_low 13 (word / 2 ^ 43 % 2 ^ 13) (word / 2 ^ 43) (omega arith) ∙ long;
    }

pub frame_short : (way : Way) (word : ℕ) (f : Frame) → IsFrameIn way word f → f.len < 2 ^ 13
frame_short ToTrain word f (nid, dir, len) = omega (arith, len)
frame_short ToTrack word f (nid, dir, len) = omega (arith, len)

-- packet 255 in them
pub closes_telegram : (left at word : ℕ) (xs : List Bool) → AreNext word xs at → at + left ≤ length xs → 8 ≤ left → word / 2 ^ 56 ≡ 255 → ClosesAt Telegram left xs at
closes_telegram left at word xs next within some is =
    let long : length (spelled (closing Telegram)) ≡ 8 = length-sent NID_PACKET 255 [] in
    let bits : spelled (closing Telegram) ≡ part at 8 xs = append-nil (num 8 255) ∙ ap (num 8) (sym is) ∙ first_bits word at 8 xs next (omega arith) (omega (arith, within, some)) in
    subst (λ (n : ℕ). Fills Telegram left n × (spelled (closing Telegram) ≡ part at n xs)) (sym long) (some, bits)

-- ---- One packet.

both_true : (a b : Bool) → a ≡ true → b ≡ true → IsTrue (a && b)
both_true a b e f = rw (e, f) refl

marker_admitted : (n : ℕ) → n < 64 → IsTrue (admits NID_VBCMK n)
marker_admitted n small = admits_by_first NID_VBCMK n (0, 63) refl (both_true _ _ (le-leb 0 n (omega arith)) (le-leb n 63 (omega (arith, small))))

pub marker_at : (word at room number : ℕ) (xs : List Bool) (H H' : Holds) → AreNext word xs at → at + room ≤ length xs → 14 ≤ room → word < 2 ^ 56 → number ≡ word / 2 ^ 50 % 64
    → (IsTrue (is_marker ToTrain number) → (vs : List PacketValue) → H vs [] [] → H' (vs ++ marker number ∷ []) [] []) → WholeAt Telegram H H' xs at 14
marker_at word at room number xs H H' next inside some small is held =
    let admitted : IsTrue (admits NID_VBCMK number) = marker_admitted number (omega (arith, is)) in
    let zero-nid : 0 ≡ word / 2 ^ 56 = omega (arith, small) in
    let one : num 8 0 ≡ part at 8 xs = ap (num 8) zero-nid ∙ first_bits word at 8 xs next (omega arith) (omega (arith, inside, some)) in
    let two : num 6 number ≡ part (at + 8) 6 xs = ap (num 6) is ∙ num_low 6 (word / 2 ^ 50 % 64) (word / 2 ^ 50) (omega arith) ∙ next 8 6 (omega arith) (omega (arith, inside, some)) in
    record {
      packet = marker number;
      carried = admitted;
      bits = ap (λ (t : List Bool). num 8 0 ++ t) (append-nil (num 6 number) ∙ two) ∙ ap (λ (t : List Bool). t ++ part (at + 8) 6 xs) one ∙ sym (part-add at 8 6 xs);
      long = refl;
      held = λ vs h. held admitted vs h;
    }

-- one that is kept as bits
pub kept_at : (way : Way) (c : Carrier) → way_of c ≡ way → (H H' : Holds) (xs : List Bool) (at l nid dir : ℕ) (body : List Bool) → FrameAt (way_of c) nid dir l at xs → at + l ≤ length xs → body ≡ part (at + frame_bits (way_of c)) (l - frame_bits (way_of c)) xs → other_fault way nid dir (length body) ≡ None
    → ((vs : List PacketValue) → H vs [] [] → H' (vs ++ kept nid dir body ∷ []) [] []) → WholeAt c H H' xs at l
kept_at way c to H H' xs at l nid dir body frame within same fine held =
    let own = way_of c in
    let v = kept nid dir body in
    let is : IsPacketTo own v = subst (λ (w : Way). other_fault w nid dir (length body) ≡ None) (sym to) fine in
    let k = kept_parts own nid dir (length body) is in
    let least = frame.least in
    let size : length body ≡ l - frame_bits own = ap (λ (t : List Bool). length t) same ∙ length-part (at + frame_bits own) (l - frame_bits own) xs (omega (arith, least, within)) in
    let r : Reading = sent.kept OTHER_DATA body in
    let bits : spelled (reading_to own v) ≡ part at l xs = ap (λ (m : ℕ). spelled (in_frame own nid dir m r)) size ∙ frame_spelled own nid dir l at xs r frame (spelled_kept body ∙ same) in
    record { packet = v; carried = framed_carried c v is (kept_framed own nid k.0); bits = bits; long = omega (arith, size, least); held = held }

-- ---- One after another.

-- more after the bits so far
more_bits : (at place room left l : ℕ) (xs : List Bool) (r q : Reading) → spelled r ≡ part at (room - left) xs → spelled q ≡ part place l xs → left ≤ room → l ≤ left → place + left ≡ at + room → spelled (r ++ q) ≡ part at (room - (left - l)) xs
more_bits at place room left l xs r q before next within le here =
    let there : place ≡ at + (room - left) = omega (arith, within, here) in
    let total : room - (left - l) ≡ room - left + l = omega (arith, within, le) in
    spelled-append r q
    ∙ ap (λ (t : List Bool). t ++ spelled q) before
    ∙ ap (λ (t : List Bool). part at (room - left) xs ++ t) (next ∙ ap (λ (k : ℕ). part k l xs) there)
    ∙ sym (part-add at (room - left) l xs)
    ∙ ap (λ (n : ℕ). part at n xs) (sym total)

pub run_more : (c : Carrier) (room : ℕ) (H H' : Holds) (xs : List Bool) (at left place l : ℕ) → RunTo c room H xs at left → WholeAt c H H' xs place l → place + left ≡ at + room → l ≤ left → RunTo c room H' xs at (left - l)
run_more c room H H' xs at left place l run one here le =
    let way = way_of c in
    let r = readings_to way run.packets in
    let q = reading_to way one.packet in
    let pushed = packets_push way run.packets one.packet in
    let size : length (spelled q) ≡ l = bits_are way one.packet ∙ one.long in
    let within = run.within in
    record {
      packets = run.packets ++ one.packet ∷ [];
      held = one.held run.packets run.held;
      carried = All-push (Carries c) run.packets one.packet run.carried one.carried;
      within = omega (arith, within);
      long = omega (arith, ap (λ (t : Reading). length (spelled t)) pushed, both_length r q, size, run.long, le);
      bits = ap spelled pushed ∙ more_bits at place room left l xs r q run.bits one.bits within le here;
    }

fills_within : (c : Carrier) (room n : ℕ) → Fills c room n → n ≤ room
fills_within Telegram room n h = h
fills_within (Message way) room n h = h.0

-- what closes the packets lies within the room
pub closes_within : (c : Carrier) (left place n : ℕ) (xs : List Bool) → ClosesAt c left xs place → n ≡ length (spelled (closing c)) → n ≤ left
closes_within c left place n xs last is = subst (λ (m : ℕ). m ≤ left) (sym is) (fills_within c left (length (spelled (closing c))) last.0)

pub run_closed : (c : Carrier) (room : ℕ) (H : Holds) (xs : List Bool) (at left place n : ℕ) → RunTo c room H xs at left → ClosesAt c left xs place → place + left ≡ at + room → n ≡ length (spelled (closing c)) → RunAt c room H xs at (left - n)
run_closed c room H xs at left place n run last here is =
    let r = readings_to (way_of c) run.packets in
    let q = closing c in
    let le : n ≤ left = closes_within c left place n xs last is in
    let bits : spelled q ≡ part place n xs = last.1 ∙ ap (λ (m : ℕ). part place m xs) (sym is) in
    let long = run.long in
    let within = run.within in
    let rest : room - length (spelled r) ≡ left = omega (arith, long) in
    let all = both_length r q in
    record {
      packets = run.packets;
      held = run.held;
      run = record {
        carried = run.carried;
        reading_is = refl;
        fills = subst (λ (m : ℕ). Fills c room m) (sym all) (fills_before c room (length (spelled r)) (length (spelled q)) (omega (arith, long)) (subst (λ (m : ℕ). Fills c m (length (spelled q))) (sym rest) last.0));
      };
      within = omega (arith, within);
      long = omega (arith, all, long, is, le);
      bits = more_bits at place room left n xs r q run.bits bits within le here;
    }
