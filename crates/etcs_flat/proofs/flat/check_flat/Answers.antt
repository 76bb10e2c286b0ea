use Rattle.std.proofs.Common.{◌∙◌}
use Rattle.std.proofs.lemmas.Result.{on_ok_weaker}
use Rattle.etcs_flat.specs.Flats.{flat_row_to}
use Rattle.etcs_flat.proofs.FlatLaws.{flat_short}
use Rattle.etcs_flat.proofs.Checks.{numbers_left}
use Rattle.etcs_flat.proofs.flat.check_flat.Goals as goal

pub returns-clause-ok : goal.returns-clause-ok
returns-clause-ok c =
    let a = c.args in
    let x = numbers_left a.way (flat_row_to a.way a.nid) c.in-Some.table.now a.dir a.numbers.now c.in-Some.ensures c.if-numbers-table.false c.in_ok-check_direction.ensures.ok in
    rw x.2 (c.check_numbers.ensures.ok x.0 x.1)

pub returns-clause-fault : goal.returns-clause-fault
returns-clause-fault c =
    let a = c.args in
    let x = numbers_left a.way (flat_row_to a.way a.nid) c.in-Some.table.now a.dir a.numbers.now c.in-Some.ensures c.if-numbers-table.false c.in_ok-check_direction.ensures.ok in
    rw x.2 (c.check_numbers.ensures.fault x.0 x.1)

pub returns-clause-short : goal.returns-clause-short
returns-clause-short c =
    let a = c.args in
    let x = numbers_left a.way (flat_row_to a.way a.nid) c.in-Some.table.now a.dir a.numbers.now c.in-Some.ensures c.if-numbers-table.false c.in_ok-check_direction.ensures.ok in
    on_ok_weaker c.check_numbers.result (λ fine. flat_short a.way a.nid a.dir a.numbers.now (x.2 ∙ fine)) (c.check_numbers.ensures.ok x.0 x.1)
