-- What a poker holds: bytes, and a place that moves.
use Rattle.std.specs.Prelude.{ℕ, List}
use Rattle.etcs_bits.specs.declared.poker.Poker.{Poker}

-- the bytes that a poker writes into, as they are now
abbrev pub bytes_of : Poker → List ℕ
bytes_of p = p.bytes.now

-- how many bits of its bytes a poker has passed
abbrev pub place_of : Poker → ℕ
place_of p = p.place
