-- The bits of a list from one of them on, in a word of 64 bits.
use Rattle.std.specs.Prelude.{◌≡◌, ℕ, ◌+◌, ◌-◌, ◌/◌, ◌^◌, ◌≤◌, Bool, List, length}
use Rattle.etcs_bits.specs.Bits.{num, value, part}

-- the highest bits of the word are those of xs from bit at on: 57 of them, or all that are left if these are fewer
abbrev pub AreNext : ℕ → List Bool → ℕ → Type 0
AreNext word xs at = (from count : ℕ) → from + count ≤ 57 → at + (from + count) ≤ length xs → num count (word / 2 ^ (64 - (from + count))) ≡ part (at + from) count xs

-- the highest bits of the word are those of xs from bit at on: 64 of them, or all that are left if these are fewer
abbrev pub BeginsWith : ℕ → List Bool → ℕ → Type 0
BeginsWith word xs at = (count : ℕ) → count ≤ 64 → at + count ≤ length xs → word / 2 ^ (64 - count) ≡ value (part at count xs)
