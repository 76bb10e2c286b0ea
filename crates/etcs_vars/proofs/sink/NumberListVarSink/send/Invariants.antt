use Rattle.std.proofs.Common.{◌≡◌, ◌++◌, take}
use Rattle.etcs_vars.specs.Reading.{numbers}
use Rattle.etcs_vars.proofs.sink.NumberListVarSink.send.Given as goal

abbrev pub invariant-loop-pair : goal.invariant-loop-pair
invariant-loop-pair l = l.self-inside.held.items ≡ l.fn.self ++ numbers (take l.pair-index l.sent)
