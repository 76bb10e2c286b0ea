-- A message that is read from its encoding, and written again.
use Rattle.std.proofs.Common.{◌≡◌, ℕ, zero, suc, ◌^◌, ◌<◌, Bool, List, [], ◌∷◌, ◌++◌, get_or, sym, ap, ◌∙◌, arith}
use Rattle.std.specs.Prelude.{All}
use Rattle.etcs_bits.specs.Bits.{bits}
use Rattle.etcs_bits.proofs.ByteBits.{bits-append}
use Rattle.etcs_bits.proofs.Owned.{bits_same}
use Rattle.etcs_vars.specs.declared.var.Var.TheVariants.{NID_MESSAGE, L_MESSAGE, PADDING, OTHER_DATA}
use Rattle.etcs_vars.specs.Reading.{Reading, spelled, kept, NoneYet}
use Rattle.etcs_packets.specs.PacketValues.{Form}
use Rattle.etcs_packets.specs.PacketReadings.{readings_to}
use Rattle.etcs_sequence.specs.Firsts.{IsFirst}
use Rattle.etcs_sequence.proofs.RoundTrips.{one_first, some_there}
use Rattle.etcs_messages.specs.declared.message.Content.{Content}
use Rattle.etcs_messages.specs.Messages.{MessageValue, typed_message, kept_message, MessageReads, MessageLanguage, head_reading, message_value, IsMessage}
use Rattle.etcs_messages.proofs.Spelling.{OnePacket, one_spelled}
use Rattle.etcs_tables.specs.declared.row.Way.{Way}
use Rattle.etcs_messages.specs.Kinds.{HeadOf, OwnOf, HeadLaws, OwnLaws}

-- the message spells these bytes
abbrev pub Spelled : {H B P : Type 0} (way : Way) (hd : HeadOf H) (bd : OwnOf B) (form : P → Form) → Content H B P → List ℕ → Type 0
Spelled way hd bd form m piece = (r : Reading) × MessageReads way (message_value way hd bd form m) r × (spelled r ≡ bits piece)

-- what encoding appends to nothing
pub spelled_first : {H B P : Type 0} (way : Way) (hd : HeadOf H) (bd : OwnOf B) (form : P → Form) (m : Content H B P) (old bytes piece : List ℕ) → old ≡ [] → ((r : Reading) × MessageReads way (message_value way hd bd form m) r × (bits bytes ≡ bits old ++ spelled r)) → piece ≡ bytes → Spelled way hd bd form m piece
unfolding bits
spelled_first way hd bd form m old bytes piece none (r, reads, e) same = (r, reads, ap (λ (b : List ℕ). bits b ++ spelled r) (sym none) ∙ sym e ∙ ap bits (sym same))

module _ {H B P : Type 0} (way : Way) (hd : HeadOf H) (bd : OwnOf B) (form : P → Form) (m : Content H B P) (bytes : List ℕ) (spells : Spelled way hd bd form m bytes) where
  -- what is read of an encoding
  pub read_again : {sent_head : H → Reading} {sent_own : B → Reading} (hl : HeadLaws way H sent_head hd) (ol : OwnLaws way B sent_own bd) (one : OnePacket form) (again : Content H B P) (k : ℕ) → IsMessage way hd bd form m → IsFirst (MessageReads way) (message_value way hd bd form) (IsMessage way hd bd form) bytes again k → again ≡ m
  read_again hl ol one again k is first =
      let (r, reads, e) = spells in
      one_first (MessageReads way) (message_value way hd bd form) (IsMessage way hd bd form) bytes again k m r is reads e (one_spelled way hd bd form hl ol one) first

  -- and something is
  pub some_again : NoneYet (MessageLanguage way) (bits bytes) → ⊥
  some_again none =
      let (r, reads, e) = spells in
      some_there (MessageReads way) (message_value way hd bd form m) r (bits bytes) reads e none

-- ---- What was read is written again.

-- a message has one reading
pub one_reading : (way : Way) (v : MessageValue) (r q : Reading) → MessageReads way v r → MessageReads way v q → r ≡ q
one_reading way (typed_message nid h body vs padding) r q x y =
    let len : x.len ≡ y.len = omega (arith, x.bytes, y.bytes) in
    x.reading_is ∙ ap (λ (n : ℕ). head_reading nid n h ++ body ++ readings_to way vs ++ kept PADDING padding) len ∙ sym y.reading_is
one_reading way (kept_message nid b) r q x y =
    let len : x.len ≡ y.len = omega (arith, x.bytes, y.bytes) in
    x.reading_is ∙ ap (λ (n : ℕ). (NID_MESSAGE, nid) ∷ (L_MESSAGE, n) ∷ kept OTHER_DATA b) len ∙ sym y.reading_is

small_append : (xs ys : List ℕ) → ((i : ℕ) → get_or xs i 0 < 2 ^ 8) → ((i : ℕ) → get_or ys i 0 < 2 ^ 8) → (i : ℕ) → get_or (xs ++ ys) i 0 < 2 ^ 8
small_append [] ys hx hy i = hy i
small_append (x ∷ xs) ys hx hy zero = hx 0
small_append (x ∷ xs) ys hx hy (suc i) = small_append xs ys (λ k. hx (suc k)) hy i

small_items : (xs : List ℕ) → All (λ b. b < 2 ^ 8) xs → (i : ℕ) → get_or xs i 0 < 2 ^ 8
small_items [] h i = omega arith
small_items (x ∷ xs) h zero = h 0 0 (omega arith)
small_items (x ∷ xs) h (suc i) = small_items xs (λ k d l. h (suc k) d (omega (arith, l))) i

pub written_again : {H B P : Type 0} (way : Way) (hd : HeadOf H) (bd : OwnOf B) (form : P → Form) (m : Content H B P) (old new piece : List ℕ) → Spelled way hd bd form m piece → ((r : Reading) × MessageReads way (message_value way hd bd form m) r × (bits new ≡ bits old ++ spelled r)) → ((i : ℕ) → get_or old i 0 < 2 ^ 8) → ((i : ℕ) → get_or piece i 0 < 2 ^ 8) → All (λ b. b < 2 ^ 8) new → new ≡ old ++ piece
written_again way hd bd form m old new piece (q, reads, e) (r, reads', e') ho hp hn =
    let one = one_reading way (message_value way hd bd form m) r q reads' reads in
    bits_same new (old ++ piece) (small_items new hn) (small_append old piece ho hp) (e' ∙ ap (λ (x : Reading). bits old ++ spelled x) one ∙ ap (λ (b : List Bool). bits old ++ b) e ∙ sym (bits-append old piece))
