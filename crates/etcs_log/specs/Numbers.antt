-- Sets of numbers of packets or messages.
use Rattle.std.specs.Prelude.{ℕ, Bool, true, false, replicate, slice_index_or, slice_set}
use Rattle.etcs_log.specs.declared.numbers.NumberSet.{NumberSet}

-- the empty set
abbrev pub no_numbers : NumberSet
no_numbers = record { any = false; numbers = replicate 256 false }

-- this set and this number
abbrev pub with_number : NumberSet → ℕ → NumberSet
with_number set n = record { any = true; numbers = slice_set set.numbers n true }

-- it has this number
abbrev pub has_number : NumberSet → ℕ → Bool
has_number set n = slice_index_or set.numbers n false
