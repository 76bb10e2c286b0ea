use Rattle.std.proofs.Common.{rules, ◌+◌, ◌^◌, ◌<◌, arith}
use Rattle.etcs_vars.specs.Reading.{spelled}
use Rattle.etcs_vars.proofs.WordSinks.{appended}
use Rattle.etcs_messages.specs.Readings.{message_reading}
use Rattle.etcs_messages.proofs.message.MessageOf.encode.Goals as goal

pub overflow_add-start : goal.overflow_add-start
overflow_add-start g c =
    let small : c.len-start.result + c.bytes.result < 2 ^ 64 = omega (arith, c.readable.ensures.small, c.bytes.ensures, c.len-start.ensures, c.args.out.now.ok.0) in
    search rules

pub returns-clause-ok : goal.returns-clause-ok
returns-clause-ok g c =
    let r = message_reading g.H.Packet.AnyPacket.WAY g.H.Head.head g.B.Own.own g.H.Packet.AnyPacket.form c.args.self.now in (
      r,
      c.readable.ensures.reads,
      appended c.args.out.now.items c.resize.new.self.items c.deref_mut.result.now c.write_message.new.out c.len-start.result c.bytes.result _ c.resize.new.self.len (spelled r) (omega (arith, c.len-start.ensures, c.args.out.now.ok.0)) (c.in_ok-resize.ensures.items) c.deref_mut.ensures.value c.in_ok-resize.ensures.len (omega (arith, c.readable.ensures.bytes, c.bytes.ensures)) c.write_message.ensures,
    )
