use Rattle.std.proofs.Common.{length, ap, arith}
use Rattle.std.proofs.Math.Bridge.{le_prop}
use Rattle.std.proofs.Math.Logic.{∥∥₁_elim}
use Rattle.etcs_sequence.proofs.list.PacketListPacketStore.bits.Goals as goal

pub append-requires : goal.append-requires
append-requires g c = ∥∥₁_elim c.requires le_prop (λ (vs, (f, (k, ((is, (made, (same, bits))), small)))). omega (arith, small, ap length bits))
