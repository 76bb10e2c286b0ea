-- The parts of a message, put one after another.
use Rattle.std.proofs.Common.{◌≡◌, ℕ, ◌+◌, ◌-◌, ◌*◌, ◌/◌, ◌%◌, ◌^◌, ◌<◌, ◌≤◌, Bool, List, [], ◌∷◌, ◌++◌, length, refl, sym, ap, ◌∙◌, arith, length-append, append-nil}
use Rattle.etcs_bits.specs.Bits.{num}
use Rattle.etcs_bits.proofs.ByteBits.{num_low}
use Rattle.etcs_bits.proofs.Numbers.{num-add}
use Rattle.etcs_vars.specs.declared.var.Var.TheVariants.{NID_MESSAGE, L_MESSAGE, PADDING, OTHER_DATA}
use Rattle.etcs_vars.specs.Reading.{Reading, spelled, kept}
use Rattle.etcs_vars.specs.laws.Spellings.{spelled-append}
use Rattle.etcs_packets.specs.PacketValues.{Form}
use Rattle.etcs_packets.specs.PacketReadings.{readings_to}
use Rattle.etcs_vars.specs.declared.word_sink.WordSink.{WordSink}
use Rattle.etcs_vars.specs.WordSinks.{and_bits}
use Rattle.etcs_vars.specs.laws.WordSinks.{and_both}
use Rattle.etcs_vars.proofs.WordSinks.{word_length}
use Rattle.etcs_messages.specs.declared.message.Content.TheVariants.{Typed, Kept}
use Rattle.etcs_tables.specs.declared.row.Way.{Way}
use Rattle.etcs_messages.specs.Kinds.{HeadOf, OwnOf, HeadLaws, OwnLaws}
use Rattle.etcs_messages.proofs.Fields.{head_bits}
use Rattle.etcs_messages.proofs.Sizes.{is_head}
use Rattle.etcs_messages.specs.Messages.{values_of, all_bits, padding_room, head_reading, IsTyped}
use Rattle.etcs_messages.specs.Readings.{bytes_of, message_reading}
use Rattle.etcs_sequence.proofs.LabelLaws.{length-widths}
use Rattle.etcs_sequence.specs.laws.BitLaws.{bits_spelled}

-- NID_MESSAGE and L_MESSAGE
abbrev pub numbers_front : ℕ → ℕ → Reading
numbers_front nid len = (NID_MESSAGE, nid) ∷ (L_MESSAGE, len) ∷ []

front_18 : (nid len : ℕ) → length (spelled (numbers_front nid len)) ≡ 18
front_18 nid len = length-widths (numbers_front nid len)

-- both as one number
front_number : (nid len : ℕ) → len ≤ 1023 → num 18 (nid * 1024 + len) ≡ spelled (numbers_front nid len)
front_number nid len few =
    let all = nid * 1024 + len in
    let high : all / 2 ^ 10 ≡ nid = omega (arith, few) in
    let low : all % 2 ^ 10 ≡ len % 2 ^ 10 = omega arith in
    num-add 8 10 all
    ∙ ap (λ (k : ℕ). num 8 k ++ num 10 all) high
    ∙ ap (λ (t : List Bool). num 8 nid ++ t) (num_low 10 all len low ∙ sym (append-nil (num 10 len)))

pub front_put : (number bytes nid len : ℕ) (s s1 : WordSink) → bytes < 1024 → number ≡ nid → bytes ≡ len → s1 ≡ and_bits s (num 18 (number * 1024 + bytes)) → s1 ≡ and_bits s (spelled (numbers_front nid len))
front_put number bytes nid len s s1 few n l e =
    e
    ∙ ap (and_bits s) (front_number number bytes (omega (arith, few)))
    ∙ ap (λ (k : ℕ). and_bits s (spelled (numbers_front k bytes))) n
    ∙ ap (λ (k : ℕ). and_bits s (spelled (numbers_front nid k))) l

-- ---- A typed message.

typed_bits : {H B P : Type 0} (way : Way) (hd : HeadOf H) (bd : OwnOf B) (form : P → Form) (head : H) (body : B) (ps : List P) (padding : ℕ) → spelled (message_reading way hd bd form (Typed head body ps padding)) ≡ (((spelled (numbers_front (bd.nid body) (bytes_of way bd form (Typed head body ps padding))) ++ spelled (hd.reading head)) ++ spelled (bd.reading body)) ++ spelled (readings_to way (values_of form ps))) ++ num (padding_room (all_bits way bd form body ps)) padding
typed_bits way hd bd form head body ps padding =
    let len = bytes_of way bd form (Typed head body ps padding) in
    let n = numbers_front (bd.nid body) len in
    let h = head_reading (bd.nid body) len (hd.reading head) in
    let b = bd.reading body in
    let p = readings_to way (values_of form ps) in
    let z = num (padding_room (all_bits way bd form body ps)) padding in
    let first : spelled h ≡ spelled n ++ spelled (hd.reading head) = spelled-append n (hd.reading head) in
    let second : spelled (h ++ b) ≡ (spelled n ++ spelled (hd.reading head)) ++ spelled b = spelled-append h b ∙ ap (λ (s : List Bool). s ++ spelled b) first in
    let third : spelled ((h ++ b) ++ p) ≡ ((spelled n ++ spelled (hd.reading head)) ++ spelled b) ++ spelled p = spelled-append (h ++ b) p ∙ ap (λ (s : List Bool). s ++ spelled p) second in
    spelled-append ((h ++ b) ++ p) (kept PADDING z)
    ∙ ap (λ (s : List Bool). s ++ spelled (kept PADDING z)) third
    ∙ ap (λ (s : List Bool). (((spelled n ++ spelled (hd.reading head)) ++ spelled b) ++ spelled p) ++ s) (bits_spelled PADDING z refl)

-- the same put after others, PADDING up to whole bytes
pub typed_put : {H B P : Type 0} (way : Way) (hd : HeadOf H) (bd : OwnOf B) (form : P → Form) {sent_head : H → Reading} {sent_own : B → Reading} (hl : HeadLaws way H sent_head hd) (ol : OwnLaws way B sent_own bd) (head : H) (body : B) (ps : List P) (padding : ℕ) (s s1 s2 s3 s4 s5 : WordSink) → IsTyped way hd bd form head body ps padding → s.word ≡ [] → s1 ≡ and_bits s (spelled (numbers_front (bd.nid body) (bytes_of way bd form (Typed head body ps padding)))) → s2 ≡ and_bits s1 (spelled (sent_head head)) → s3 ≡ and_bits s2 (spelled (sent_own body)) → s4 ≡ and_bits s3 (spelled (readings_to way (values_of form ps))) → s5 ≡ and_bits s4 (num ((8 - length s4.word % 8) % 8) padding)
    → s5 ≡ and_bits s (spelled (message_reading way hd bd form (Typed head body ps padding)))
typed_put way hd bd form hl ol head body ps padding s s1 s2 s3 s4 s5 is none e1 e2 e3 e4 e5 =
    let nid = bd.nid body in
    let len = bytes_of way bd form (Typed head body ps padding) in
    let n = spelled (numbers_front nid len) in
    let h = spelled (hd.reading head) in
    let o = spelled (bd.reading body) in
    let p = spelled (readings_to way (values_of form ps)) in
    let f2 : s2 ≡ and_bits s (n ++ h) = e2 ∙ ap (λ (r : Reading). and_bits s1 (spelled r)) (hl.is_sent head) ∙ ap (λ (t : WordSink). and_bits t h) e1 ∙ and_both s n h in
    let f3 : s3 ≡ and_bits s ((n ++ h) ++ o) = e3 ∙ ap (λ (r : Reading). and_bits s2 (spelled r)) (ol.is_sent body) ∙ ap (λ (t : WordSink). and_bits t o) f2 ∙ and_both s (n ++ h) o in
    let f4 : s4 ≡ and_bits s (((n ++ h) ++ o) ++ p) = e4 ∙ ap (λ (t : WordSink). and_bits t p) f3 ∙ and_both s ((n ++ h) ++ o) p in
    let l1 = length-append n h in
    let l2 = length-append (n ++ h) o in
    let l3 = length-append ((n ++ h) ++ o) p in
    let front = head_bits way (hd.reading head) (hl.reads head (is_head way hd bd form head body ps padding is)) in
    let all = ((n ++ h) ++ o) ++ p in
    let empty : length s.word ≡ 0 = ap length none in
    let after : length s4.word % 8 ≡ (length s.word + length all) % 8 = ap (λ (t : WordSink). length t.word % 8) f4 ∙ word_length s all (omega (arith, empty)) in
    let room : (8 - length s4.word % 8) % 8 ≡ padding_room (all_bits way bd form body ps) = omega (arith, after, empty, l1, l2, l3, front, front_18 nid len) in
    let z = num (padding_room (all_bits way bd form body ps)) padding in
    e5 ∙ ap (λ (k : ℕ). and_bits s4 (num k padding)) room ∙ ap (λ (t : WordSink). and_bits t z) f4 ∙ and_both s (((n ++ h) ++ o) ++ p) z ∙ ap (and_bits s) (sym (typed_bits way hd bd form head body ps padding))

-- ---- A kept message.

pub kept_put : {H B P : Type 0} (way : Way) (hd : HeadOf H) (bd : OwnOf B) (form : P → Form) (nid : ℕ) (b : List Bool) (s s1 s2 : WordSink) → s1 ≡ and_bits s (spelled (numbers_front nid (bytes_of {H = H} way bd form (Kept nid b)))) → s2 ≡ and_bits s1 b → s2 ≡ and_bits s (spelled (message_reading way hd bd form (Kept nid b)))
kept_put {H} way hd bd form nid b s s1 s2 e1 e2 =
    let n = numbers_front nid (bytes_of {H = H} way bd form (Kept nid b)) in
    let all : spelled (n ++ kept OTHER_DATA b) ≡ spelled n ++ b = spelled-append n (kept OTHER_DATA b) ∙ ap (λ (t : List Bool). spelled n ++ t) (bits_spelled OTHER_DATA b refl) in
    e2 ∙ ap (λ (t : WordSink). and_bits t b) e1 ∙ and_both s (spelled n) b ∙ ap (and_bits s) (sym all)
