use Rattle.etcs_reader.proofs.FieldLaws.{some_fields}
use Rattle.etcs_tests.proofs.field_tests.reader_of.Goals as goal

pub new-requires : goal.new-requires
new-requires c = some_fields c.args.vars.now
