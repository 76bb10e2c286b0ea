-- Lemmas about specs/Chains.antt.
use Rattle.std.proofs.Common.{◌≡◌, ℕ, ◌+◌, length, arith}
use Rattle.etcs_vars.specs.Reading.{Reading, spelled}
use Rattle.etcs_bodies.specs.Entries.{entries_reading}
use Rattle.etcs_grouped.specs.laws.Fronts.{after_front}
use Rattle.etcs_grouped.specs.Chains.{ChainValue, chain_reading}

-- ---- Its bits.

pub chain_length : {V : Type 0} (reading : V → Reading) (p : ChainValue V) (a : ℕ) → a ≡ length (spelled (entries_reading reading (p.first, p.further))) → 2 + a ≡ length (spelled (chain_reading reading p))
chain_length reading p a h = after_front (chain_reading reading p) (entries_reading reading (p.first, p.further)) 2 a (omega arith) h
