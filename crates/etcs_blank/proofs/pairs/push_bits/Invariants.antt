use Rattle.std.proofs.Common.{◌≡◌, ◌++◌, replicate}
use Rattle.etcs_vars.specs.Reading.{kept}
use Rattle.etcs_blank.proofs.pairs.push_bits.Given as goal

abbrev pub invariant-loop : goal.invariant-loop
invariant-loop l = l.pairs.items ≡ l.fn.pairs.items ++ kept l.var (replicate l.counter l.bit)
