use Rattle.std.proofs.Common.{◌-◌}
use Rattle.etcs_messages.proofs.RestSteps.{padding_goes}
use Rattle.etcs_messages.proofs.RestHolds.{padding_follows}
use Rattle.etcs_messages.proofs.rest.MessageRest.pad.Goals as goal

pub returns-clause-follows : goal.returns-clause-follows
returns-clause-follows g c =
    let v = c.self.view_is in
    rw (← v) (padding_follows _ _ _ _ c.args.left c.args.count c.args.number (rw (← v) at c.requires.phase) c.after_bits-self-inside.ensures c.requires.within c.requires.small)

pub returns-clause-goes : goal.returns-clause-goes
returns-clause-goes g c =
    let i = c.self.inside in
    rw c.after_bits-self-inside.ensures (padding_goes g.H.Packet.AnyPacket.WAY i.nid (c.args.left - c.args.count) i.packets.left)
