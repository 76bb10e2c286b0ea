use Rattle.std.proofs.Common.{◌≡◌, ◌*◌, take, bit_or, length}
use Rattle.std.specs.Simd.Lanes.{zip2}
use Rattle.etcs_rows.proofs.length_set.joined.Given as goal

abbrev pub invariant-loop-block : goal.invariant-loop-block
invariant-loop-block l = (length l.out ≡ 128) × (take (l.block * 4) l.out ≡ zip2 bit_or (take (l.block * 4) l.a) (take (l.block * 4) l.b))
