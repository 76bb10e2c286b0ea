use Rattle.std.proofs.Common.{rules}
use Rattle.std.proofs.lemmas.List.FromFn.{fill_by_all}
use Rattle.etcs_reasons.specs.BitDigits.{packed_byte}
use Rattle.etcs_reasons.proofs.bits.packed.Goals as goal

pub returns : goal.returns
returns c = fill_by_all (λ k. packed_byte c.args.bytes.now k) c.loop-i.packed 104 0 c.loop-i.invariant.0 (search rules)
