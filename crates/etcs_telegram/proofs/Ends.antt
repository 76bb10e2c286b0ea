-- The start and the end of a telegram.
use Rattle.std.proofs.Common.{◌≡◌, ◌+◌, false, ◌++◌, length, refl, sym, ap, ◌∙◌, arith, append_assoc}
use Rattle.std.specs.Prelude.{◌≤◌, replicate}
use Rattle.etcs_vars.specs.declared.var.Var.TheVariants.{FILL, PAD}
use Rattle.etcs_vars.specs.Reading.{Reading, spelled, numbers, kept, IsAdmitted}
use Rattle.etcs_telegram.specs.declared.size.Size.{Size}
use Rattle.etcs_telegram.specs.declared.size.Size.TheVariants.{Short, Long}
use Rattle.etcs_rows.specs.declared.frames.Carrier.TheVariants as carrier
use Rattle.etcs_sequence.specs.Contents.{ReadsPackets}
use Rattle.etcs_telegram.specs.Telegrams.{header_reading, header_of, closed_reading, packet_room, pad_bits, user_bits, TelegramLanguage}
use Rattle.etcs_tables.specs.Headers.{header_row}
use Rattle.etcs_telegram.specs.Phases.{HeaderLeft}
use Rattle.etcs_telegram.proofs.HeaderLemmas.{header_length}
use Rattle.etcs_telegram.proofs.Rows.{header_reads, row_header, admitted_row}

pub room_more : (size : Size) → packet_room size + 50 ≡ user_bits size
room_more Short = refl
room_more Long = refl

pub start_to : (size : Size) (q : Reading) → TelegramLanguage size q → HeaderLeft size header_row q
start_to size q (t, (st, x)) =
    let h = header_reading t.header in
    let p = closed_reading t.packets in
    let pads : kept PAD (replicate (pad_bits t.size) false) ≡ kept PAD (replicate (pad_bits size) false) = ap (λ (s : Size). kept PAD (replicate (pad_bits s) false)) st in
    let zeros = kept PAD (replicate (pad_bits size) false) in
    let user : user_bits t.size ≡ user_bits size = ap user_bits st in
    let len : length (spelled p) + length t.fill ≡ packet_room size = omega (arith, user, header_length t.header, x.user_bits_is, room_more size) in
    let e : q ≡ h ++ (p ++ (kept FILL t.fill ++ zeros)) = x.reading_is ∙ rw pads (append_assoc (h ++ p) (kept FILL t.fill) zeros ∙ append_assoc h p (kept FILL t.fill ++ zeros)) in
    let run : ReadsPackets carrier.Telegram (packet_room size) t.packets p = record { carried = λ i d lt. x.packets_hold i d lt; reading_is = refl; fills = omega (arith, len) } in
    (h, p ++ (kept FILL t.fill ++ zeros), e, header_reads t.header x.header_admitted, (p, kept FILL t.fill ++ zeros, refl, (t.packets, run), (kept FILL t.fill, zeros, refl, (t.fill, omega (arith, len), refl), refl)))

pub start_from : (size : Size) (q : Reading) → HeaderLeft size header_row q → TelegramLanguage size q
start_from size q (h, rest, e, hr, (p, rest', e', (vs, run), (k, z, e'', (fill, len, k_is), z_is))) =
    let parts = header_of (numbers h) in
    let is : h ≡ header_reading parts = row_header h hr in
    let admitted : IsAdmitted (header_reading parts) = (let a = admitted_row header_row h hr in rw is at a) in
    let zeros = kept PAD (replicate (pad_bits size) false) in
    let all : q ≡ header_reading parts ++ (closed_reading vs ++ (kept FILL fill ++ zeros)) = e ∙ ap (λ (t : Reading). h ++ t) (e' ∙ ap (λ (t : Reading). p ++ t) (e'' ∙ ap (λ (t : Reading). t ++ z) k_is ∙ ap (λ (t : Reading). kept FILL fill ++ t) z_is) ∙ ap (λ (t : Reading). t ++ (kept FILL fill ++ zeros)) run.reading_is) ∙ ap (λ (t : Reading). t ++ (closed_reading vs ++ (kept FILL fill ++ zeros))) is in
    let whole : q ≡ ((header_reading parts ++ closed_reading vs) ++ kept FILL fill) ++ zeros = all ∙ sym (append_assoc (header_reading parts) (closed_reading vs) (kept FILL fill ++ zeros)) ∙ sym (append_assoc (header_reading parts ++ closed_reading vs) (kept FILL fill) zeros) in
    let fills : length (spelled p) ≤ packet_room size = run.fills in
    let bits : length (spelled p) ≡ length (spelled (closed_reading vs)) = ap (λ (t : Reading). length (spelled t)) run.reading_is in (
      record { size = size; header = parts; packets = vs; fill = fill },
      (refl, record { header_admitted = admitted; packets_hold = λ i d lt. run.carried i d lt; reading_is = whole; user_bits_is = omega (arith, header_length parts, len, room_more size, fills, bits) }),
    )
