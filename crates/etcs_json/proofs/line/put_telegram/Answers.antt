use Rattle.std.proofs.Common.{◌≡◌, ℕ, ◌+◌, ◌∷◌, ◌++◌, List, length, map, refl, sym, ap, ◌∙◌, arith}
use Rattle.std.proofs.lemmas.List.{length-map}
use Rattle.etcs_packet_text.specs.Show.{bit_digit}
use Rattle.etcs_telegram.specs.Telegrams.{TelegramValue, user_bits}
use Rattle.etcs_telegram.specs.Writing.{telegram_reading}
use Rattle.etcs_text.specs.Entries.{of_telegram}
use Rattle.etcs_json.proofs.PutItems.{telegram_put}
use Rattle.etcs_json.proofs.TakenTexts.{telegram_taken}
use Rattle.etcs_json.proofs.line.put_telegram.Goals as goal

pub returns : goal.returns
returns c =
    let (h, admitted, headed, hbits) = c.in_ok-pass_header.ensures in
    let (vs, all, other, listed, pbits) = c.in_ok-pass_packets.ensures in
    let (b, digits, fbits) = c.in_ok-put_digits.ensures.some in
    let t : TelegramValue = record { size = c.args.size; header = h; packets = vs; fill = b } in
    let many : length c.in_ok-fill.fill.now ≡ length b = ap (λ (z : List ℕ). length z) digits ∙ length-map b bit_digit in
    let room : length c.put.new.out + length b ≡ user_bits c.args.size = omega (arith, many, c.in_ok-left.ensures, c.len.ensures, c.user_bits.ensures, c.if-fill-left.false) in
    let bits = telegram_put c.args.size h vs vs b c.args.out.now c.pass_header.new.out c.pass_packets.new.out c.put.new.out c.put_digits.new.out c.put-2.new.out admitted all refl c.requires hbits pbits c.in_ok-put.ensures room fbits (rw c.pad_bits.ensures at c.in_ok-put-2.ensures) in
    let filled : c.pass.new.self ≡ map bit_digit b ++ 34 ∷ c.quoted.new.self = c.in_ok-fill.ensures ∙ ap (λ (z : List ℕ). z ++ 34 ∷ c.quoted.new.self) digits in
    let text = telegram_taken c.args.size h vs b c.args.text.now c.pass.new.self c.quoted.new.self c.pass-2.new.self c.pass_header.new.text c.pass_kind.new.text c.pass_packets.new.text c.pass-3.new.self (sym c.new-text.ensures ∙ c.in_ok-pass.ensures) filled c.in_ok-pass-2.ensures headed c.in_ok-pass_kind.ensures listed c.in_ok-pass-3.ensures in
    (of_telegram t, telegram_reading t, (refl, bits.0), (c.pass-3.new.self, ap (λ (z : List ℕ). length z) (sym c.left.ensures), text), bits.1)
