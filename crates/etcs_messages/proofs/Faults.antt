-- Messages that have no fault.
use Rattle.std.proofs.Common.{◌≡◌, ℕ, ◌+◌, ◌*◌, ◌%◌, ◌^◌, ◌<◌, ◌≤◌, Bool, true, false, List, [], ◌∷◌, Some, None, refl, ap, arith}
use Rattle.std.specs.Prelude.{Option, All, nat_lt, ◌==◌, ◌||◌, if◌then◌else◌, is_some}
use Rattle.std.specs.List.{list_any}
use Rattle.std.proofs.lemmas.Bool.Decides.{nat_tests}
use Rattle.std.proofs.lemmas.List.Elements.{All-nil, All-cons, All-head, All-tail, All-weaker}
use Rattle.std.proofs.lemmas.List.Folds.{list_any_none}
use Rattle.etcs_vars.specs.declared.var.Var.TheVariants.{NID_MESSAGE, NID_PACKET, PADDING}
use Rattle.etcs_vars.specs.declared.fault.BuildFault.{BuildFault}
use Rattle.etcs_vars.specs.declared.fault.BuildFault.TheVariants.{NotAdmitted, TooLong, FillLength}
use Rattle.etcs_vars.specs.Faults.{◌or_else◌}
use Rattle.etcs_tables.specs.declared.row.Way.{Way}
use Rattle.etcs_tables.specs.declared.row.Way.TheVariants.{ToTrack}
use Rattle.etcs_rows.specs.declared.frames.Carrier.TheVariants.{Message}
use Rattle.etcs_tables.specs.Rows.{message_row_to}
use Rattle.etcs_packets.specs.PacketValues.{PacketValue, Form, IsPacketTo}
use Rattle.etcs_sequence.specs.Contents.{Carries}
use Rattle.etcs_messages.specs.Kinds.{HeadOf, OwnOf, IsOwn}
use Rattle.etcs_messages.proofs.Ways.{unmarked_is}
use Rattle.etcs_messages.specs.Messages.{is_marker, values_of, all_bits, padding_room, front_fault, message_fault, padded_fault, kept_fault}

neither : (e f : Option BuildFault) → e ≡ None → f ≡ None → (e or_else f) ≡ None
neither e f h k = rw (h, k) refl

not_then : (b : Bool) (x : BuildFault) → b ≡ false → (if b then Some x else None) ≡ None
not_then b x h = rw h refl

then_none : (b : Bool) (x : BuildFault) → b ≡ true → (if b then None else Some x) ≡ None
then_none b x h = rw h refl

at_most : (a b : ℕ) → a ≤ b → nat_lt b a ≡ false
at_most a b h = grind (arith, nat_tests)

below : (a b : ℕ) → a < b → nat_lt a b ≡ true
below a b h = grind (arith, nat_tests)

-- packets that a message carries
unmarked : {P : Type 0} (way : Way) (form : P → Form) (ps : List P) → All (Carries (Message way)) (values_of form ps) → All (λ p. is_marker way (form p).value ≡ false) ps
unmarked way form [] h = All-nil (λ p. is_marker way (form p).value ≡ false)
unmarked way form (p ∷ ps) h =
    let first = All-head (Carries (Message way)) (form p).value (values_of form ps) h in
    All-cons (λ q. is_marker way (form q).value ≡ false) p ps (unmarked_is way (form p).value first.1) (unmarked way form ps (All-tail (Carries (Message way)) (form p).value (values_of form ps) h))

-- to the track none has that fault
pub none_marked : {P : Type 0} (form : P → Form) (ps : List P) → false ≡ list_any (λ p. is_marker ToTrack (form p).value) ps
none_marked form [] = refl
none_marked form (p ∷ ps) = none_marked form ps

pub carried_packets : (way : Way) (vs : List PacketValue) → All (Carries (Message way)) vs → All (IsPacketTo way) vs
carried_packets way vs h = All-weaker (Carries (Message way)) (IsPacketTo way) (λ v k. k.0) vs h

pub no_typed_fault : {H B P : Type 0} (way : Way) (hd : HeadOf H) (bd : OwnOf B) (form : P → Form) (head : H) (body : B) (ps : List P) (padding : ℕ) → hd.fault head ≡ None → IsOwn bd body → All (Carries (Message way)) (values_of form ps) → all_bits way bd form body ps ≤ 8184 → padding < 2 ^ padding_room (all_bits way bd form body ps) → padded_fault way hd bd form head body ps padding ≡ None
no_typed_fault way hd bd form head body ps padding h b carried short small =
    let number = if bd.is_of_variant body then None else Some (NotAdmitted NID_MESSAGE) in
    let marker = if list_any (λ p. is_marker way (form p).value) ps then Some (NotAdmitted NID_PACKET) else None in
    let long = if nat_lt 8184 (all_bits way bd form body ps) then Some TooLong else None in
    let pad = if nat_lt padding (2 ^ padding_room (all_bits way bd form body ps)) then None else Some (NotAdmitted PADDING) in
    let variant : number ≡ None = then_none (bd.is_of_variant body) (NotAdmitted NID_MESSAGE) b.variant in
    let numbers : (hd.fault head or_else bd.fault body) ≡ None = neither (hd.fault head) (bd.fault body) h b.variables in
    let front : front_fault hd bd head body ≡ None = neither number (hd.fault head or_else bd.fault body) variant numbers in
    let marked : marker ≡ None = not_then (list_any (λ p. is_marker way (form p).value) ps) (NotAdmitted NID_PACKET) (list_any_none (λ p. is_marker way (form p).value) ps (unmarked way form ps carried)) in
    let short_is : long ≡ None = not_then (nat_lt 8184 (all_bits way bd form body ps)) TooLong (at_most (all_bits way bd form body ps) 8184 short) in
    let whole : (marker or_else long) ≡ None = neither marker long marked short_is in
    let all : message_fault way hd bd form head body ps ≡ None = neither (front_fault hd bd head body) (marker or_else long) front whole in
    neither (message_fault way hd bd form head body ps) pad all (then_none (nat_lt padding (2 ^ padding_room (all_bits way bd form body ps))) (NotAdmitted PADDING) (below padding (2 ^ padding_room (all_bits way bd form body ps)) small))

whole_bytes : (bits len : ℕ) → 18 + bits ≡ 8 * len → ((bits + 18) % 8 == 0) ≡ true
whole_bytes bits len h = let same : (bits + 18) % 8 ≡ 0 = omega (arith, h) in rw same refl

within : (bits : ℕ) → 6 ≤ bits → bits ≤ 8166 → (nat_lt bits 6 || nat_lt 8166 bits) ≡ false
within bits h k = grind (arith, nat_tests)

pub no_kept_fault : (way : Way) (nid bits len : ℕ) → message_row_to way nid ≡ None → 18 + bits ≡ 8 * len → 3 ≤ len → len < 2 ^ 10 → kept_fault way nid bits ≡ None
no_kept_fault way nid bits len untyped all least most =
    let row = not_then (is_some (message_row_to way nid)) (NotAdmitted NID_MESSAGE) (ap is_some untyped) in
    neither (if is_some (message_row_to way nid) then Some (NotAdmitted NID_MESSAGE) else None) (if nat_lt bits 6 || nat_lt 8166 bits then Some FillLength else if (bits + 18) % 8 == 0 then None else Some FillLength) row
    (rw (within bits (omega (arith, all, least)) (omega (arith, all, most)), whole_bytes bits len all) refl)
