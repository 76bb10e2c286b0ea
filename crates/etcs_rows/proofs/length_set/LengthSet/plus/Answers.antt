use Rattle.etcs_rows.specs.Sets.{In, Has}
use Rattle.etcs_rows.proofs.Additions.{sums_turned}
use Rattle.etcs_rows.proofs.length_set.LengthSet.plus.Goals as goal

pub returns-then-count_of : goal.returns-then-count_of
unfolding In
returns-then-count_of c = c.sums_of-words.ensures

pub returns-else-count_of : goal.returns-else-count_of
unfolding In
returns-else-count_of c = sums_turned (Has c.args.other.now.words) (Has c.args.self.now.words) c.sums_of-words-else-count_of.result c.sums_of-words-else-count_of.ensures
