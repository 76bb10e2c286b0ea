use Rattle.etcs_reader.proofs.FieldLaws.{fields_tested}
use Rattle.etcs_reader.proofs.fields.FieldsRest.begins.Goals as goal

pub returns : goal.returns
returns c = rw (c.begins.ensures, c.ranges-2.ensures) (fields_tested c.args.self.now.vars.now c.args.var c.args.rest c.args.number c.requires.next c.requires.rest c.requires.fits)
