use Rattle.std.proofs.Common.{◌≡◌, [], subst}
use Rattle.std.specs.Prelude.{◌↔◌}
use Rattle.etcs_tables.specs.Layouts.{Layout, Lengths}
use Rattle.etcs_rows.specs.Cursors.{left_of}
use Rattle.etcs_rows.specs.Sets.{In}
use Rattle.etcs_rows.proofs.LengthLemmas.{lengths_are}
use Rattle.etcs_rows.proofs.place.Place.lengths.Goals as goal

pub returns : goal.returns
returns c = λ m.
    let left = left_of c.self.inside.cursor in
    let is : left ≡ c.args.self.now = c.self.view_is in
    let all = lengths_are left c.self.invariant.2 m in
    let set = c.lengths.ensures m in
    subst (λ (x : Layout). In c.lengths.result m ↔ Lengths x [] m) is (λ h. all.1 (set.0 h), λ l. set.1 (all.0 l))
