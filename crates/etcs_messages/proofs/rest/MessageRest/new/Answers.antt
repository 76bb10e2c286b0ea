use Rattle.std.proofs.Common.{refl, ◌∙◌}
use Rattle.etcs_sequence.proofs.StageLaws.{begun_closed}
use Rattle.etcs_messages.proofs.RestStart.{new_left}
use Rattle.etcs_messages.proofs.rest.MessageRest.new.Goals as goal

pub invariant_of-result : goal.invariant_of-result
invariant_of-result g c =
    let l = c.new-2.result.left in
    (rw (c.new.ensures, begun_closed c.WAY.result l.carrier l.room l.stage l.stands c.new-2.ensures.left) refl, (c.requires.way, tt))

pub returns-clause-left : goal.returns-clause-left
returns-clause-left g c = new_left g.H.Packet.AnyPacket.WAY

pub new-requires-2-clause-way : goal.new-requires-2-clause-way
new-requires-2-clause-way g c = c.WAY.ensures ∙ c.requires.way
