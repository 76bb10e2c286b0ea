-- A sink of bits that are put over those of bytes, a word of 64 bits at a time.
use Rattle.std.specs.Prelude.{◌≡◌, ℕ, ◌+◌, ◌*◌, ◌≤◌, Bool, List, [], ◌∷◌, ◌++◌, length, take, nat_le, nat_lt, if◌then◌else◌}
use Rattle.etcs_bits.specs.Bits.{bits, value}
use Rattle.etcs_vars.specs.Words.{with_front}
use Rattle.etcs_vars.specs.declared.word_sink.WordSink.{WordSink}

-- a full word is written over the next eight bytes, if it has room; else all is as before
unfoldable pub pushed : WordSink → List Bool → WordSink
pushed s w = if nat_le (s.at + 8) (length s.bytes.now) then record { bytes = record s.bytes { now = with_front s.bytes.now s.at (value w) 8 }; at = s.at + 8; word = s.word } else s

-- the same written bytes, and these bits after them
abbrev pub with_word : WordSink → List Bool → WordSink
with_word s w = record { bytes = s.bytes; at = s.at; word = w }

-- a sink with one bit more after the others; 64 of them are written over the next eight bytes
unfoldable pub and_bit : WordSink → Bool → WordSink
and_bit s b = if nat_lt (length s.word + 1) 64 then with_word s (s.word ++ b ∷ []) else with_word (pushed s (s.word ++ b ∷ [])) []

-- a sink with more bits after the others, one after another
abbrev pub and_bits : WordSink → List Bool → WordSink
and_bits s [] = s
and_bits s (b ∷ bs) = and_bits (and_bit s b) bs

-- the bits that were put so far: those of the written bytes, and those that are not yet written
abbrev pub bits_so_far : WordSink → List Bool
bits_so_far s = take (8 * s.at) (bits s.bytes.now) ++ s.word

-- the first bits of these bytes are those that were put, if they had room
abbrev pub IsWritten : WordSink → List ℕ → Type 0
IsWritten s bytes = 8 * s.at + length s.word ≤ 8 * length s.bytes.now → take (8 * s.at + length s.word) (bits bytes) ≡ bits_so_far s
