use Rattle.std.proofs.Common.{◌∙◌}
use Rattle.etcs_tables.specs.declared.row.Way.TheVariants.{ToTrack}
use Rattle.etcs_flat.specs.laws.TableLaws.{table_width}
use Rattle.etcs_track.proofs.train_flat.TrainFlatVariables.bits.Goals as goal

pub returns-clause-bits : goal.returns-clause-bits
returns-clause-bits g c =
    c.table_bits.ensures.bits ∙ table_width ToTrack g.row.NID 0 c.args.self.now c.table.result.now c.table.ensures.value c.table.ensures.table
