use Rattle.etcs_vars.specs.declared.var.Var.TheVariants.{PADDING}
use Rattle.etcs_sequence.proofs.BitLaws.{bit_number}
use Rattle.etcs_messages.proofs.Begins.{padding_bit, data_bit}
use Rattle.etcs_messages.proofs.RestHolds.{phase_is}
use Rattle.etcs_messages.proofs.rest.MessageRestRest.pass.Goals as goal

pub pad-requires-clause-small : goal.pad-requires-clause-small
pad-requires-clause-small g c = (padding_bit c.args.self.now c.args.var c.args.number c.in-Padding.left c.requires.next c.requires.goes (phase_is c.self.view_is c.in-Padding.is)).1

pub pass_data-requires-clause-small : goal.pass_data-requires-clause-small
pass_data-requires-clause-small g c = (data_bit c.args.self.now c.args.var c.args.number c.in-Data.left c.requires.next c.requires.goes (phase_is c.self.view_is c.in-Data.is)).1

pub returns-in-Padding-clause-ok : goal.returns-in-Padding-clause-ok
returns-in-Padding-clause-ok g c =
    let is = padding_bit c.args.self.now c.args.var c.args.number c.in-Padding.left c.requires.next c.requires.goes (phase_is c.self.view_is c.in-Padding.is) in
    rw is.0 (rw (bit_number PADDING c.args.number is.1) at c.pad.ensures.follows)
