-- Sets of numbers from 0 to 8,191, such as lengths in bits, as words of 64 bits: number n is bit n % 64 of word n / 64.
use Rattle.std.specs.Prelude.{◌≡◌, ℕ, ◌+◌, ◌-◌, ◌*◌, ◌/◌, ◌%◌, ◌^◌, Bool, true, ◌==◌, List, get_or, ◌<◌, ◌≤◌, ◌↔◌, ◌⊎◌, nat_lt, if◌then◌else◌}
use Rattle.std.specs.Int.{bit_at}
use Rattle.std.specs.Int.RustNames.{bit_or}
use Rattle.etcs_rows.specs.declared.length_set.LengthSet.{LengthSet}
use Rattle.etcs_rows.specs.Sums.{Plus}

-- the words hold the number n, as a test
abbrev pub member : List ℕ → ℕ → Bool
member words n = bit_at (get_or words (n / 64) 0) (n % 64) == 1

-- the words hold the number n
abbrev pub Has : List ℕ → ℕ → Type 0
Has words n = member words n ≡ true

-- the set holds the number n
unfoldable pub In : LengthSet → ℕ → Type 0
In s n = Has s.words n

-- the set holds the numbers of A up to 8,191, and no others
abbrev pub IsSet : LengthSet → (ℕ → Type 0) → Type 0
IsSet s A = (m : ℕ) → In s m ↔ (A m × (m ≤ 8191))

-- word i of the words moved up by this many words
abbrev pub moved_word : ℕ → List ℕ → ℕ → ℕ
moved_word by words i = if nat_lt i by then 0 else get_or words (i - by) 0

-- a word shifted up by this many bits, and under it the top bits of the word before
abbrev pub shifted_word : ℕ → ℕ → ℕ → ℕ
shifted_word by word before = bit_or (word * 2 ^ by % 2 ^ 64) (before / 2 ^ 1 / 2 ^ (63 - by))

-- word i of the words with `by` added to each number
abbrev pub raised_word : ℕ → List ℕ → ℕ → ℕ
raised_word by words i = shifted_word (by % 64) (moved_word (by / 64) words i) (moved_word (by / 64 + 1) words i)

-- the words from low up to high, without it, took in those of words with `by` added to each number
pub record TakesIn (by : ℕ) (words : List ℕ) (low high : ℕ) (old new : List ℕ) : Type 0 where
  pub within : (i : ℕ) → low ≤ i → i < high → get_or new i 0 ≡ bit_or (get_or old i 0) (raised_word by words i)
  pub under : (i : ℕ) → i < low → get_or new i 0 ≡ get_or old i 0
  pub over : (i : ℕ) → high ≤ i → get_or new i 0 ≡ get_or old i 0

-- new holds what old held, and the sums up to 8,191 of a number of A and one that words hold
pub record Adds (A : ℕ → Type 0) (words old new : List ℕ) : Type 0 where
  pub are : (m : ℕ) → Has new m ↔ (Has old m ⊎ (Plus A (Has words) m × (m ≤ 8191)))

-- the word has a bit from low to high
abbrev pub AnyFlag : ℕ → ℕ → ℕ → Type 0
AnyFlag word low high = (i : ℕ) × (bit_at word i ≡ 1) × (low ≤ i) × (i ≤ high)

-- the words hold a number from low to high
abbrev pub AnyHas : List ℕ → ℕ → ℕ → Type 0
AnyHas words low high = (m : ℕ) × Has words m × (low ≤ m) × (m ≤ high)
