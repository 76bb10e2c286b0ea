use Rattle.std.proofs.Common.{◌≡◌, ◌<◌, ◌^◌, length, take}
use Rattle.etcs_vars.specs.Reading.{spelled}
use Rattle.etcs_text.proofs.account.Account.bytes.Given as goal

abbrev pub invariant-loop-field : goal.invariant-loop-field
invariant-loop-field l = length (spelled l.field-items) < 2 ^ 62 → l.bits ≡ length (spelled (take l.field-index l.field-items))
