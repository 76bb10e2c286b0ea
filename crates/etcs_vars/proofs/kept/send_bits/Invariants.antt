use Rattle.std.proofs.Common.{◌≡◌, ◌-◌, ◌≤◌, length, take}
use Rattle.etcs_vars.specs.Reading.{kept}
use Rattle.etcs_vars.proofs.kept.send_bits.Given as goal

abbrev pub invariant-loop-from : goal.invariant-loop-from
invariant-loop-from g l = (l.from ≤ length l.bits) × (l.out ≡ g.S.VarSink.with l.fn.out (kept l.var (take l.from l.bits)))

abbrev pub decreases-loop-from : goal.decreases-loop-from
decreases-loop-from g l = length l.bits - l.from
