-- Bits that are written as digits 0 and 1: each byte of such digits is two of them.
use Rattle.std.specs.Prelude.{ℕ, ◌+◌, ◌*◌, Bool, false, ◌&&◌, ◌||◌, ◌==◌, if◌then◌else◌, List, length, map, slice_index}
use Rattle.std.specs.List.{list_all, range_with_len}
use Rattle.etcs_text.specs.declared.entry.Kind.{Kind}
use Rattle.etcs_text.specs.declared.entry.Kind.TheVariants.{Long, Short, Radio, Train}

-- the byte is two digits: 00, 01, 10 or 11
abbrev pub is_bit_pair : ℕ → Bool
is_bit_pair b = (b == 0) || (b == 1) || (b == 16) || (b == 17)

-- the bytes are the digits 0 and 1 of as many bits as a telegram of the kind has, two digits each
abbrev pub are_bits : Kind → List ℕ → Bool
are_bits Long bytes = (length bytes == 415) && list_all is_bit_pair bytes
are_bits Short bytes = (length bytes == 105) && list_all is_bit_pair bytes
are_bits Radio bytes = false
are_bits Train bytes = false

-- the number of the two bits that the byte is
abbrev pub bit_pair : ℕ → ℕ
bit_pair b = if b == 17 then 3 else if b == 16 then 2 else if b == 1 then 1 else 0

-- the byte of the eight bits from bit 8 i on; bits after the end are 0
abbrev pub packed_byte : List ℕ → ℕ → ℕ
packed_byte bytes i = (bit_pair (slice_index bytes (4 * i)) * 4 + bit_pair (slice_index bytes (4 * i + 1))) * 16 + (bit_pair (slice_index bytes (4 * i + 2)) * 4 + bit_pair (slice_index bytes (4 * i + 3)))

-- the bytes of all bits, and zeros after them: 104 bytes
abbrev pub packed : List ℕ → List ℕ
packed bytes = map (λ i. packed_byte bytes i) (range_with_len 0 104)
