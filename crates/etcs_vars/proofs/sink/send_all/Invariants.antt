use Rattle.std.proofs.Common.{◌≡◌, flat_map, take}
use Rattle.etcs_vars.proofs.sink.send_all.Given as goal

abbrev pub invariant-loop-variables : goal.invariant-loop-variables
invariant-loop-variables g l = l.out ≡ g.S.VarSink.with l.fn.out (flat_map g.V.Variables.reading_of (take l.variables-index l.lists))
