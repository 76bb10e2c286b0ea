use Rattle.std.proofs.Common.{◌≡◌, ◌≤◌, length, take}
use Rattle.etcs_vars.specs.WordSinks.{and_bits}
use Rattle.etcs_c.specs.ItemFields.{packed}
use Rattle.etcs_c.proofs.built.pack.Given as goal

abbrev pub invariant-loop-field : goal.invariant-loop-field
invariant-loop-field l = record {
  put : l.sink ≡ and_bits l.initial.sink (packed (take l.field-index l.fields));
  counted : l.bits ≡ length (packed (take l.field-index l.fields));
  few : l.bits ≤ 8247;
}
