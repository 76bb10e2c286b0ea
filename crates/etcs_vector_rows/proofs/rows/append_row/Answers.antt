use Rattle.std.proofs.Common.{arith}
use Rattle.etcs_tables.specs.Layouts.{layout}
use Rattle.etcs_rows.proofs.RowLaws.{admitted_length}
use Rattle.etcs_vector_rows.proofs.rows.append_row.Goals as goal

pub write_row-requires-clause-room : goal.write_row-requires-clause-room
write_row-requires-clause-room c = λ b spells.
    let short = admitted_length (layout c.args.row.items.now) c.args.fields.now b (c.admits_fields.ensures.0 c.if-not-admits_fields.false) spells in
    omega (arith, short, c.requires)
