use Rattle.std.proofs.Common.{◌≡◌, take}
use Rattle.std.specs.Prelude.{flat_map}
use Rattle.etcs_vars.specs.declared.var.Var.TheVariants.{X_TEXT}
use Rattle.etcs_bodies.specs.Formats.{number, reading}
use Rattle.etcs_grouped.proofs.plain_text.send_bytes.Given as goal

abbrev pub invariant-loop-byte : goal.invariant-loop-byte
invariant-loop-byte g l = l.out ≡ g.S.VarSink.with l.fn.out (flat_map (reading (number X_TEXT)) (take l.byte-index l.bytes))
