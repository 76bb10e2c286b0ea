-- What is wrong with the parts of a message, and how many bits they take.
use Rattle.std.proofs.Common.{◌≡◌, ℕ, ◌+◌, ◌*◌, ◌/◌, ◌%◌, ◌^◌, ◌<◌, ◌≤◌, Bool, true, false, List, length, Option, Some, None, refl, ◌∙◌, arith}
use Rattle.std.specs.Prelude.{nat_lt, if◌then◌else◌, ◌||◌, ◌==◌}
use Rattle.std.specs.List.{list_any}
use Rattle.std.specs.Option.{is_some}
use Rattle.std.proofs.lemmas.Bool.{lt-ltb, ltb-true}
use Rattle.std.proofs.lemmas.Bool.Decides.{nat_tests}
use Rattle.std.proofs.Math.Nat.{le-div_iff_mul-le, div-lt_iff_lt-mul}
use Rattle.std.proofs.Math.Pow.{pow_pos}
use Rattle.etcs_bits.specs.Bits.{num}
use Rattle.etcs_bits.proofs.Numbers.{length-num}
use Rattle.etcs_vars.specs.declared.var.Var.TheVariants.{NID_MESSAGE, NID_PACKET, PADDING}
use Rattle.etcs_vars.specs.declared.fault.BuildFault.{BuildFault}
use Rattle.etcs_vars.specs.declared.fault.BuildFault.TheVariants.{NotAdmitted, TooLong, FillLength}
use Rattle.etcs_vars.specs.Faults.{◌or_else◌}
use Rattle.etcs_vars.specs.Reading.{Reading, spelled}
use Rattle.etcs_tables.specs.declared.row.Way.{Way}
use Rattle.etcs_tables.specs.Rows.{message_row_to}
use Rattle.etcs_packets.specs.PacketValues.{Form}
use Rattle.etcs_messages.specs.declared.message.Content.{Content}
use Rattle.etcs_messages.specs.declared.message.Content.TheVariants.{Typed, Kept}
use Rattle.etcs_messages.specs.Messages.{values_of, all_bits, padding_room, is_marker, front_fault, message_fault, padded_fault, kept_fault, IsTyped, IsMessage}
use Rattle.etcs_messages.specs.Kinds.{HeadOf, OwnOf, IsHead, HeadLaws, OwnLaws}
use Rattle.etcs_messages.proofs.Bytes.{typed_length as reading_length, kept_length as kept_reading}
use Rattle.etcs_messages.specs.Readings.{bytes_of, message_reading}

-- ---- One fault after another.

pub no_first : (e f : Option BuildFault) → (e or_else f) ≡ None → e ≡ None
no_first None f h = refl
no_first (Some x) f h = h

pub no_second : (e f : Option BuildFault) → (e or_else f) ≡ None → f ≡ None
no_second None f h = h
no_second (Some x) f h = absurd cc

-- a test that finds no fault
pub test_false : (b : Bool) (x : BuildFault) → (if b then Some x else None) ≡ None → b ≡ false
test_false true x h = absurd cc
test_false false x h = refl

pub test_true : (b : Bool) (x : BuildFault) → (if b then None else Some x) ≡ None → b ≡ true
test_true true x h = refl
test_true false x h = absurd cc

not_below : (a b : ℕ) → a ≤ b → nat_lt b a ≡ false
not_below a b h = grind (arith, nat_tests)

not_above : (a b : ℕ) → nat_lt b a ≡ false → a ≤ b
not_above a b h = grind (arith, nat_tests)

-- ---- A typed message.

-- the bits up to whole bytes are the rest of those of the longest message
pub room_left : (bits left : ℕ) → bits + left ≡ 8184 → padding_room bits ≡ left % 8
room_left bits left e = omega (arith, e)

-- numbers of this many bits
pub few_bits : (n k : ℕ) → n / 2 ^ k ≤ 0 → n < 2 ^ k
few_bits n k e = let m : n < 1 * 2 ^ k = (div-lt_iff_lt-mul {k = 2 ^ k} {x = n} {y = 1} (pow_pos k)).0 (omega (arith, e)) in omega (arith, m)

pub many_bits : (n k : ℕ) → 0 < n / 2 ^ k → 2 ^ k ≤ n
many_bits n k e = let m : 1 * 2 ^ k ≤ n = (le-div_iff_mul-le {k = 2 ^ k} {x = 1} {y = n} (pow_pos k)).0 (omega (arith, e)) in omega (arith, m)

module _ {H B P : Type 0} (way : Way) (hd : HeadOf H) (bd : OwnOf B) (form : P → Form) (head : H) (body : B) (ps : List P) (padding : ℕ) (front : front_fault hd bd head body ≡ None) (none : list_any (λ p. is_marker way (form p).value) ps ≡ false) where
  pub padded_long : 8184 < all_bits way bd form body ps → padded_fault way hd bd form head body ps padding ≡ Some TooLong
  padded_long long = rw (front, none, lt-ltb 8184 (all_bits way bd form body ps) long) refl

  pub padded_short : all_bits way bd form body ps ≤ 8184 → padded_fault way hd bd form head body ps padding ≡ (if nat_lt padding (2 ^ padding_room (all_bits way bd form body ps)) then None else Some (NotAdmitted PADDING))
  padded_short short = rw (front, none, not_below (all_bits way bd form body ps) 8184 short) refl

  pub padded_bad : all_bits way bd form body ps ≤ 8184 → 2 ^ padding_room (all_bits way bd form body ps) ≤ padding → padded_fault way hd bd form head body ps padding ≡ Some (NotAdmitted PADDING)
  padded_bad short h = padded_short short ∙ rw (not_below (2 ^ padding_room (all_bits way bd form body ps)) padding h) refl

  pub padded_good : all_bits way bd form body ps ≤ 8184 → padding < 2 ^ padding_room (all_bits way bd form body ps) → padded_fault way hd bd form head body ps padding ≡ None
  padded_good short h = padded_short short ∙ rw (lt-ltb padding (2 ^ padding_room (all_bits way bd form body ps)) h) refl

-- zeros have room
pub zero_padding : {H B P : Type 0} (way : Way) (hd : HeadOf H) (bd : OwnOf B) (form : P → Form) (head : H) (body : B) (ps : List P) → padded_fault way hd bd form head body ps 0 ≡ message_fault way hd bd form head body ps
zero_padding way hd bd form head body ps = or_none (message_fault way hd bd form head body ps) _ (rw (lt-ltb 0 (2 ^ padding_room (all_bits way bd form body ps)) (pow_pos (padding_room (all_bits way bd form body ps)))) refl)
  where
    or_none : (e f : Option BuildFault) → f ≡ None → (e or_else f) ≡ e
    or_none None f h = h
    or_none (Some x) f h = refl

-- what holds if there is no fault
pub record Faultless {H B P : Type 0} (way : Way) (hd : HeadOf H) (bd : OwnOf B) (form : P → Form) (head : H) (body : B) (ps : List P) (padding : ℕ) : Type 0 where
  pub front : front_fault hd bd head body ≡ None
  pub unmarked : list_any (λ p. is_marker way (form p).value) ps ≡ false
  pub short : all_bits way bd form body ps ≤ 8184
  pub small : padding < 2 ^ padding_room (all_bits way bd form body ps)

pub faultless : {H B P : Type 0} (way : Way) (hd : HeadOf H) (bd : OwnOf B) (form : P → Form) (head : H) (body : B) (ps : List P) (padding : ℕ) → padded_fault way hd bd form head body ps padding ≡ None → Faultless way hd bd form head body ps padding
faultless way hd bd form head body ps padding e =
    let front = front_fault hd bd head body in
    let marker = if list_any (λ p. is_marker way (form p).value) ps then Some (NotAdmitted NID_PACKET) else None in
    let long = if nat_lt 8184 (all_bits way bd form body ps) then Some TooLong else None in
    let pad = if nat_lt padding (2 ^ padding_room (all_bits way bd form body ps)) then None else Some (NotAdmitted PADDING) in
    let three : (front or_else marker or_else long) ≡ None = no_first (front or_else marker or_else long) pad e in
    let two : (marker or_else long) ≡ None = no_second front (marker or_else long) three in
    record {
      front = no_first front (marker or_else long) three;
      unmarked = test_false (list_any (λ p. is_marker way (form p).value) ps) (NotAdmitted NID_PACKET) (no_first marker long two);
      short = not_above (all_bits way bd form body ps) 8184 (test_false (nat_lt 8184 (all_bits way bd form body ps)) TooLong (no_second marker long two));
      small = ltb-true padding (2 ^ padding_room (all_bits way bd form body ps)) (test_true (nat_lt padding (2 ^ padding_room (all_bits way bd form body ps))) (NotAdmitted PADDING) (no_second (front or_else marker or_else long) pad e));
    }

-- ---- A kept message.

pub record KeptParts (way : Way) (nid bits : ℕ) : Type 0 where
  pub untyped : message_row_to way nid ≡ None
  pub least : 6 ≤ bits
  pub most : bits ≤ 8166
  pub bytes : (bits + 18) % 8 ≡ 0

none_is : {A : Type 0} (o : Option A) → is_some o ≡ false → o ≡ None
none_is None h = refl
none_is (Some x) h = absurd cc

kept_bits : (bits : ℕ) → (if nat_lt bits 6 || nat_lt 8166 bits then Some FillLength else if (bits + 18) % 8 == 0 then None else Some FillLength) ≡ None → (6 ≤ bits) × (bits ≤ 8166) × ((bits + 18) % 8 ≡ 0)
kept_bits bits e = grind (arith, nat_tests)

pub kept_parts : (way : Way) (nid bits : ℕ) → kept_fault way nid bits ≡ None → KeptParts way nid bits
kept_parts way nid bits e =
    let typed = if is_some (message_row_to way nid) then Some (NotAdmitted NID_MESSAGE) else None in
    let length = if nat_lt bits 6 || nat_lt 8166 bits then Some FillLength else if (bits + 18) % 8 == 0 then None else Some FillLength in
    let fill = kept_bits bits (no_second typed length e) in
    record {
      untyped = none_is (message_row_to way nid) (test_false (is_some (message_row_to way nid)) (NotAdmitted NID_MESSAGE) (no_first typed length e));
      least = fill.0;
      most = fill.1;
      bytes = fill.2;
    }

-- ---- How many bits there are.

pub is_head : {H B P : Type 0} (way : Way) (hd : HeadOf H) (bd : OwnOf B) (form : P → Form) (head : H) (body : B) (ps : List P) (padding : ℕ) → IsTyped way hd bd form head body ps padding → IsHead hd head
is_head way hd bd form head body ps padding h =
    let f = faultless way hd bd form head body ps padding h.no_fault in
    let number = if bd.is_of_variant body then None else Some (NotAdmitted NID_MESSAGE) in
    record { variables = no_first (hd.fault head) (bd.fault body) (no_second number (hd.fault head or_else bd.fault body) f.front); types = h.head_types }

pub typed_length : {H B P : Type 0} (way : Way) (hd : HeadOf H) (bd : OwnOf B) (form : P → Form) {sent_head : H → Reading} {sent_own : B → Reading} (hl : HeadLaws way H sent_head hd) (ol : OwnLaws way B sent_own bd) (head : H) (body : B) (ps : List P) (padding : ℕ) → IsTyped way hd bd form head body ps padding → length (spelled (message_reading way hd bd form (Typed head body ps padding))) ≡ all_bits way bd form body ps + padding_room (all_bits way bd form body ps)
typed_length way hd bd form hl ol head body ps padding h =
    let bits = num (padding_room (all_bits way bd form body ps)) padding in
    let reads = hl.reads head (is_head way hd bd form head body ps padding h) in
    let l1 = reading_length way (bd.nid body) (bytes_of way bd form (Typed head body ps padding)) (hd.reading head) (bd.reading body) (values_of form ps) bits reads in
    let l2 = length-num (padding_room (all_bits way bd form body ps)) padding in
    omega (arith, l1, l2)

pub kept_length : {H B P : Type 0} (way : Way) (hd : HeadOf H) (bd : OwnOf B) (form : P → Form) (nid : ℕ) (b : List Bool) → length (spelled (message_reading way hd bd form (Kept nid b))) ≡ 18 + length b
kept_length {H} way hd bd form nid b = kept_reading nid (bytes_of {H = H} way bd form (Kept nid b)) b

-- all bits are the bytes that L_MESSAGE counts
pub message_length : {H B P : Type 0} (way : Way) (hd : HeadOf H) (bd : OwnOf B) (form : P → Form) {sent_head : H → Reading} {sent_own : B → Reading} (hl : HeadLaws way H sent_head hd) (ol : OwnLaws way B sent_own bd) (m : Content H B P) → IsMessage way hd bd form m → length (spelled (message_reading way hd bd form m)) ≡ 8 * bytes_of way bd form m
message_length way hd bd form hl ol (Typed head body ps padding) h = omega (arith, typed_length way hd bd form hl ol head body ps padding h)
message_length way hd bd form hl ol (Kept nid b) h = let k = kept_parts way nid (length b) h.1 in omega (arith, kept_length way hd bd form nid b, k.bytes)

pub bytes_small : {H B P : Type 0} (way : Way) (hd : HeadOf H) (bd : OwnOf B) (form : P → Form) (m : Content H B P) → IsMessage way hd bd form m → bytes_of way bd form m ≤ 1023
bytes_small way hd bd form (Typed head body ps padding) h = let f = faultless way hd bd form head body ps padding h.no_fault in omega (arith, f.short)
bytes_small way hd bd form (Kept nid b) h = let k = kept_parts way nid (length b) h.1 in omega (arith, k.most)
