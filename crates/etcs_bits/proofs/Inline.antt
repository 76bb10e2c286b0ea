-- Bits in a word's bytes.
use Rattle.std.proofs.Common.{◌≡◌, ℕ, ◌+◌, ◌*◌, ◌≤◌, Bool, List, ◌++◌, length, take, replicate, refl, sym, ap, ◌∙◌, arith, drop, false}
use Rattle.std.proofs.lemmas.List.{length-append, length-take, take_at, take-take}
use Rattle.etcs_bits.specs.Bits.{bits, replaced}
use Rattle.etcs_bits.proofs.Owned.{bits-take}
use Rattle.etcs_bits.proofs.Positions.{length-bits}

pub length-kept : (bytes : List ℕ) (seen : List Bool) (len : ℕ) → take len (bits bytes) ≡ seen → len ≤ 56 → length bytes ≡ 7 → length seen ≡ len
length-kept bytes seen len e h n = sym (ap length e) ∙ omega (arith, length-take len (bits bytes), length-bits bytes)

-- what is written after them
pub kept_more : (bytes new : List ℕ) (seen : List Bool) (len : ℕ) (x : List Bool) → take len (bits bytes) ≡ seen → len + length x ≤ 56 → length bytes ≡ 7 → bits new ≡ replaced len x (bits bytes) → take (len + length x) (bits new) ≡ seen ++ x
kept_more bytes new seen len x e h n w =
    let front = take len (bits bytes) in
    let rest = drop (len + length x) (bits bytes) in
    let size : length (front ++ x) ≡ len + length x = omega (arith, length-append front x, length-take len (bits bytes), length-bits bytes) in
    ap (take (len + length x)) w ∙ take_at (front ++ x) rest (len + length x) size ∙ ap (λ l. l ++ x) e

-- the first bits of a word that begins with them, of which seven bytes are kept
pub kept_first : (seen : List Bool) (word bytes : List ℕ) → length seen ≤ 56 → 7 ≤ length word → bits word ≡ take 64 (seen ++ replicate 64 false) → bytes ≡ take 7 word → take (length seen) (bits bytes) ≡ seen
kept_first seen word bytes h n e cut =
    let size = length seen in
    ap (λ (b : List ℕ). take size (bits b)) cut
    ∙ ap (take size) (bits-take word 7 n)
    ∙ take-take size (8 * 7) (bits word) h
    ∙ ap (take size) e
    ∙ take-take size 64 (seen ++ replicate 64 false) (omega (arith, h))
    ∙ take_at seen (replicate 64 false) size refl
