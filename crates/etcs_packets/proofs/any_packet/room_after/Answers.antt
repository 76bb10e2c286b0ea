use Rattle.std.proofs.Common.{◌≤◌, ◌<◌, arith}
use Rattle.etcs_packets.specs.PacketValues.{bits_to}
use Rattle.etcs_packets.proofs.Leaving.{leaves_first, leaves_next, leaves_none, leaves_end, made_end, packets_end}
use Rattle.etcs_packets.proofs.any_packet.room_after.Goals as goal

pub loop-packet-init : goal.loop-packet-init
loop-packet-init g c = leaves_first g.P.AnyPacket.WAY g.P.AnyPacket.form c.args.room c.args.packets.now

pub loop-packet-preserved : goal.loop-packet-preserved
loop-packet-preserved g c =
    let l = c.loop-packet in
    let p = c.packet-item.result in
    let fits : bits_to g.P.AnyPacket.WAY (g.P.AnyPacket.form p).value ≤ l.left = omega (arith, c.bit_len-bits.ensures.bits) in
    rw c.bit_len-bits.ensures.bits (leaves_next g.P.AnyPacket.WAY g.P.AnyPacket.form c.args.room c.args.packets.now l.packet-index l.left p c.loop-packet-test.true c.packet-item.is l.invariant fits c.hold.ensures.made c.hold.ensures.packet)

pub returns-then-left-bits-clause-none : goal.returns-then-left-bits-clause-none
returns-then-left-bits-clause-none g c =
    let l = c.loop-packet in
    let short : l.left < bits_to g.P.AnyPacket.WAY (g.P.AnyPacket.form c.packet-item.result).value = omega (arith, c.bit_len-bits.ensures.bits) in
    leaves_none g.P.AnyPacket.WAY g.P.AnyPacket.form c.args.room c.args.packets.now l.packet-index l.left c.packet-item.result c.loop-packet-test.true c.packet-item.is l.invariant short

pub returns-clause-left : goal.returns-clause-left
returns-clause-left g c =
    let l = c.loop-packet in
    leaves_end g.P.AnyPacket.WAY g.P.AnyPacket.form c.args.room c.args.packets.now l.packet-index l.left (omega arith) l.invariant

pub returns-clause-made : goal.returns-clause-made
returns-clause-made g c =
    let l = c.loop-packet in
    made_end g.P.AnyPacket.WAY g.P.AnyPacket.form c.args.room c.args.packets.now l.packet-index l.left (omega arith) l.invariant

pub returns-clause-packets : goal.returns-clause-packets
returns-clause-packets g c =
    let l = c.loop-packet in
    packets_end g.P.AnyPacket.WAY g.P.AnyPacket.form c.args.room c.args.packets.now l.packet-index l.left (omega arith) l.invariant
