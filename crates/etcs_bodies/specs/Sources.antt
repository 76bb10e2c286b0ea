-- What is left of bits, as the code holds them: a walker over a slice.
use Rattle.std.proofs.Common.{drop}
use Rattle.etcs_bits.specs.SliceWalker.{SliceWalk}
use Rattle.etcs_bodies.specs.Taking.{Left, in_bits}

-- what is left for a walker: the bits of its slice after those that it has passed
abbrev pub bits_left : SliceWalk → Left
bits_left w = in_bits (drop w.place w.bits)
