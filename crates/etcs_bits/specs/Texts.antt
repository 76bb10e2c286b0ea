-- What is printed of bits and of faults.
use Rattle.std.specs.Prelude.{ℕ, ◌+◌, Bool, List, map, codes}
use Rattle.etcs_bits.specs.Bits.{bit}
use Rattle.etcs_bits.specs.declared.poker.PokeFault.{PokeFault}
use Rattle.etcs_bits.specs.declared.poker.PokeFault.TheVariants.{PastEnd, TooLarge}

-- what is printed of bits: a digit for each, 0 or 1, in order
abbrev pub digits : List Bool → List ℕ
digits bs = map (λ b. 48 + bit b) bs

-- the text that is printed of a fault of a write
abbrev pub poke_fault_text : PokeFault → List ℕ
poke_fault_text PastEnd = codes "the bits go past the end"
poke_fault_text TooLarge = codes "the number has more bits than its width"
