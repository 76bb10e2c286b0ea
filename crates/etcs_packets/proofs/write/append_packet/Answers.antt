use Rattle.std.proofs.Common.{◌∙◌}
use Rattle.etcs_vars.specs.Reading.{spelled}
use Rattle.etcs_packets.specs.PacketValues.{packet_value, variables_of}
use Rattle.etcs_packets.proofs.PacketBits.{rest_kept, rest_sent}
use Rattle.etcs_packets.proofs.PacketsPut.{append_parts}
use Rattle.etcs_packets.proofs.write.append_packet.Goals as goal

pub returns-in-Other : goal.returns-in-Other
returns-in-Other c =
    let v = packet_value c.args.packet.now in
    append_parts v c.args.out.now c.append_front.new.out c.put_slice.new.self c.body.result (c.body.ensures ∙ rest_kept c.args.packet.now c.in-Other.kept c.in-Other.is) c.append_front.ensures c.put_slice.ensures

pub returns-in_default : goal.returns-in_default
returns-in_default c =
    let v = packet_value c.args.packet.now in
    append_parts v c.args.out.now c.append_front.new.out c.append_rest.new.out (spelled (variables_of v)) (rest_sent c.args.packet.now c.in_default.not-Other) c.append_front.ensures c.append_rest.ensures
