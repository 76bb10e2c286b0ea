-- Bits in a word of 64 bits, and bytes of a word.
use Rattle.std.specs.Prelude.{◌≡◌, ℕ, ◌-◌, ◌%◌, ◌^◌, ◌<◌, List, ◌++◌, take, drop}
use Rattle.std.specs.Int.{to_be_bytes, w64}

-- a word holds count bits, fewer than 64, the first one highest, with zeros after the last
pub record IsWord (held count : ℕ) : Type 0 where
  pub few : count < 64
  pub zeros : held % 2 ^ (64 - count) ≡ 0

-- the bytes with the first count bytes of a word, the highest first, over those from the byte at on
abbrev pub with_front : List ℕ → ℕ → ℕ → ℕ → List ℕ
with_front bytes at word count = take at bytes ++ (take count (to_be_bytes w64 word) ++ drop count (drop at bytes))
