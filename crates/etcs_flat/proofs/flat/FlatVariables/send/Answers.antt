use Rattle.etcs_tables.specs.declared.row.Way.TheVariants.{ToTrain}
use Rattle.etcs_flat.specs.laws.TableLaws.{table_reading}
use Rattle.etcs_flat.proofs.flat.FlatVariables.send.Goals as goal

pub returns-clause-ok : goal.returns-clause-ok
returns-clause-ok g c =
    rw (c.numbers.ensures, table_reading ToTrain g.row.NID c.args.self.now.numbers c.table.result.now c.table.ensures.table) at c.send_table.ensures.ok
