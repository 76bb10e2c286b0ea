use Rattle.std.proofs.Common.{ℕ, ◌≤◌, ◌<◌}
use Rattle.etcs_rows.specs.Sets.{In}
use Rattle.etcs_rows.specs.Sums.{SumOf}
use Rattle.etcs_rows.proofs.SetLemmas.{SumsOf}
use Rattle.etcs_rows.proofs.SumLemmas.{GroupsTo}
use Rattle.etcs_rows.proofs.measure.counted_within.Given as goal

abbrev pub invariant-loop-number : goal.invariant-loop-number
invariant-loop-number l = record {
  groups : GroupsTo l.var (λ n. SumOf n (In l.group)) l.low l.number l.all;
  power : SumsOf l.number (In l.group) l.power;
  within : (n : ℕ) → l.low ≤ n → n < l.number → n ≤ l.high;
}
