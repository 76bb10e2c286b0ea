use Rattle.etcs_tables.specs.Layouts.{layout}
use Rattle.etcs_rows.specs.Lengths.{GroupsWithin}
use Rattle.etcs_rows.specs.Totals.{InSums, InAdded}
use Rattle.etcs_rows.specs.Sums.{Plus}
use Rattle.etcs_rows.proofs.LengthLemmas.{set_self, Plus-same}
use Rattle.etcs_rows.proofs.FitLemmas.{answer_same}
use Rattle.etcs_rows.proofs.fitting.Around.any.Goals as goal

pub returns : goal.returns
returns c =
    let a = c.args.self.now in let K = InSums a.sums.sums.items in
    let G = GroupsWithin a.var (layout a.rest.now) c.args.low c.args.high in let A = InAdded c.in_ok-groups.groups in
    answer_same c.any.result (Plus K A c.args.bits) (Plus K G c.args.bits) (Plus-same K A K G (set_self K) c.in_ok-groups.ensures c.args.bits) c.any.ensures
