-- What a walker over a slice holds: bits, a place that moves, and the word that keeps the next bits.
use Rattle.std.specs.Prelude.{◌≡◌, ℕ, ◌-◌, ◌/◌, ◌^◌, ◌≤◌, Bool, List, length}
use Rattle.etcs_bits.specs.Bits.{part, value}

-- the bits of a slice, and how many of them a walker has passed
pub record SliceWalk : Type 0 where
  pub bits : List Bool
  pub place : ℕ

-- the word in which a walker keeps the next bits: its count highest bits, at most 64, are the last count of the first
-- end bits of bs
pub record Keeps (word count : ℕ) (bs : List Bool) (end : ℕ) : Type 0 where
  pub small : count ≤ 64
  pub order : count ≤ end
  pub inside : end ≤ length bs
  pub word_is : word / 2 ^ (64 - count) ≡ value (part (end - count) count bs)
