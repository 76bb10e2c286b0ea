use Rattle.std.proofs.Common.{◌∙◌}
use Rattle.etcs_tables.specs.declared.row.Way.TheVariants.{ToTrain}
use Rattle.etcs_flat.specs.laws.TableLaws.{table_width}
use Rattle.etcs_flat.proofs.flat.FlatVariables.bits.Goals as goal

pub returns-clause-bits : goal.returns-clause-bits
returns-clause-bits g c =
    let p = c.args.self.now in
    c.table_bits.ensures.bits ∙ table_width ToTrain g.row.NID p.dir p.numbers c.table.result.now c.table.ensures.value c.table.ensures.table
