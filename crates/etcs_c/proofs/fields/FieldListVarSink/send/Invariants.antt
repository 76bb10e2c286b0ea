use Rattle.std.proofs.Common.{◌≡◌, take}
use Rattle.etcs_c.specs.Fields.{joined}
use Rattle.etcs_c.proofs.fields.FieldListVarSink.send.Given as goal

abbrev pub invariant-loop-pair : goal.invariant-loop-pair
invariant-loop-pair l = l.self ≡ joined l.fn.self (take l.pair-index l.sent)
