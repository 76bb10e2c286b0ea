use Rattle.std.proofs.Common.{rules}
use Rattle.etcs_tables.specs.declared.row.Way.TheVariants.{ToTrain}
use Rattle.etcs_flat.specs.Flats.{flat_value}
use Rattle.etcs_flat.specs.laws.FlatCodes.{table_fine, table_some, table_none}
use Rattle.etcs_flat.proofs.flat.Flat.taken.Goals as goal

pub invariant_of-result : goal.invariant_of-result
invariant_of-result g c =
    table_fine ToTrain g.row.NID c.args.dir c.table_of.result.now (g.L.NextNumber.left c.args.numbers.now) c.table_of.ensures.table (g.L.NextNumber.left c.take_table.new.numbers) c.in_ok-taken.taken.items c.requires.dir c.in_ok-taken.ensures.some

pub returns-clause-some : goal.returns-clause-some
returns-clause-some g c =
    table_some ToTrain g.row.NID c.args.dir c.table_of.result.now (g.L.NextNumber.left c.args.numbers.now) c.table_of.ensures.table flat_value (g.L.NextNumber.left c.take_table.new.numbers) c.in_ok-taken.taken.items c.in_ok-taken.ensures.some

pub returns-in_err-taken-clause-none : goal.returns-in_err-taken-clause-none
returns-in_err-taken-clause-none g c =
    search (rules, table_none ToTrain g.row.NID c.args.dir c.table_of.result.now (g.L.NextNumber.left c.args.numbers.now) c.table_of.ensures.table flat_value c.in_err-taken.ensures.none)
