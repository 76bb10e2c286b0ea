use Rattle.std.proofs.Common.{◌≡◌, take}
use Rattle.etcs_bits.specs.Bits.{num}
use Rattle.etcs_vars.specs.Reading.{kept}
use Rattle.etcs_vars.proofs.kept.send_word.Given as goal

abbrev pub invariant-loop-place : goal.invariant-loop-place
invariant-loop-place g l = l.out ≡ g.S.VarSink.with l.fn.out (kept l.var (take l.place (num 64 l.word)))
