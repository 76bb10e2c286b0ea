-- PADDING, cut from a byte.
use Rattle.std.proofs.Common.{◌≡◌, ℕ, ◌+◌, ◌-◌, ◌/◌, ◌^◌, ◌≤◌, Bool, List, [], ◌∷◌, length, Some, None, sym, ap, ◌∙◌, arith}
use Rattle.std.specs.Prelude.{if◌then◌else◌, nat_le}
use Rattle.std.proofs.lemmas.List.{take_all}
use Rattle.etcs_bits.specs.Bits.{num, bits, part}
use Rattle.etcs_bits.proofs.ByteBits.{bits-part}
use Rattle.etcs_bits.proofs.Lists.{part-append_right}
use Rattle.etcs_bits.proofs.Numbers.{length-num, num-add}
use Rattle.etcs_bits.proofs.Positions.{length-bits}
use Rattle.etcs_bits.proofs.Views.{part_inside}
use Rattle.etcs_tables.specs.declared.row.Way.{Way}
use Rattle.etcs_packets.specs.PacketValues.{Form}
use Rattle.etcs_messages.specs.declared.message.Content.{Content}
use Rattle.etcs_messages.specs.declared.message.Content.TheVariants.{Typed, Kept}
use Rattle.etcs_messages.specs.Kinds.{OwnOf}
use Rattle.etcs_messages.specs.Readings.{padding_bits_of, padding_of}

-- the last bits of a byte
low_bits : (o k n : ℕ) → o + k ≡ 8 → part o k (bits (n ∷ [])) ≡ num k n
low_bits o k n h =
    bits-part (n ∷ []) 0 o o k (omega arith) (omega arith) (omega (arith, h))
    ∙ ap (λ (w : ℕ). part o k (num w n)) (sym h)
    ∙ ap (λ (b : List Bool). part o k b) (num-add o k n)
    ∙ part-append_right (num o (n / 2 ^ k)) (num k n) o 0 k (omega (arith, length-num o (n / 2 ^ k)))
    ∙ take_all k (num k n) (omega (arith, length-num k n))

-- a byte has them
pub padding_cut : (at count n : ℕ) → count ≤ 7 → at ≡ 8 - count → (if nat_le (at + count) (length (bits (n ∷ []))) then Some (part at count (bits (n ∷ []))) else None) ≡ Some (num count n)
padding_cut at count n short rest =
    let whole : at + count ≡ 8 = omega (arith, rest, short) in
    sym (part_inside at count (bits (n ∷ [])) (num count n) (omega (arith, whole, length-bits (n ∷ []))) (sym (low_bits at count n whole)))

-- that of a message
module _ {H B P : Type 0} (way : Way) (o : OwnOf B) (form : P → Form) where
  padding_few : (m : Content H B P) → padding_bits_of way o form m ≤ 7
  padding_few (Typed head body ps padding) = omega arith
  padding_few (Kept nid b) = omega arith

  pub message_cut : (m : Content H B P) (at count n : ℕ) → count ≡ padding_bits_of way o form m → n ≡ padding_of m → at ≡ 8 - count → (if nat_le (at + count) (length (bits (n ∷ []))) then Some (part at count (bits (n ∷ []))) else None) ≡ Some (num (padding_bits_of way o form m) (padding_of m))
  message_cut m at count n same number rest =
      padding_cut at count n (omega (arith, same, padding_few m)) rest
      ∙ ap (λ (w : ℕ). Some (num w n)) same
      ∙ ap (λ (k : ℕ). Some (num (padding_bits_of way o form m) k)) number

pub some_bits : (a b : List Bool) → Some a ≡ Some b → a ≡ b
some_bits a b e = cc

pub no_bits : (a : List Bool) → None ≡ Some a → ⊥
no_bits a e = cc
