use Rattle.serde_json.specs.Written.{compact_text}
use Rattle.etcs_packet_text.specs.Trees.{packets_tree}
use Rattle.etcs_json.proofs.PutItems.{carried}
use Rattle.etcs_json.proofs.TakenTexts.{passed}
use Rattle.etcs_json.proofs.line.pass_packets.Goals as goal

pub returns : goal.returns
returns g c =
    let (vs, all, other, within, text, bits) = c.in_ok-after.ensures in
    (vs, all, λ none. carried g.P.AnyPacket.WAY vs all (other none), passed c.args.text.now c.left-left.result.now c.take.new.self (compact_text (packets_tree g.P.AnyPacket.WAY vs)) c.in_ok-after.after c.left-left.ensures c.take.ensures text, bits)
