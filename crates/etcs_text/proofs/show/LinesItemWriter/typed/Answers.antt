use Rattle.std.proofs.Common.{◌∙◌, ap, fold}
use Rattle.etcs_tables.specs.declared.row.Way.{Way}
use Rattle.etcs_packet_text.specs.LineSinks.{and_lines}
use Rattle.etcs_text.proofs.MessageTexts.{typed_lines}
use Rattle.etcs_text.proofs.show.LinesItemWriter.typed.Goals as goal

pub returns-clause-written : goal.returns-clause-written
returns-clause-written g c =
    let way = g.H.Packet.AnyPacket.WAY in
    let (vs, has, is) = rw c.in-Some.is at c.in_ok-padding.ensures.some in
    let packets = is ∙ ap (λ (w : Way). fold (and_lines w) c.send-2.new.out vs) c.requires.way in
    let begun = rw (c.WAY.ensures, c.nid.ensures) at c.in_ok-write_front.ensures.ok in
    λ yes. (vs, c.in-Some.padding, has, λ long. typed_lines way (g.B.Own.own.nid c.args.body.now) c.args.bytes c.args.self.now.item (g.H.Variables.reading_of c.args.head.now) (g.B.Variables.reading_of c.args.body.now) vs c.in-Some.padding c.args.page.now c.write_front.new.page c.send.new.out c.send-2.new.out c.write.new.page c.put.new.self c.put_bits_line.new.self long begun c.in_ok-send.ensures.ok c.in_ok-send-2.ensures.ok packets c.in_ok-put.ensures.ok c.in_ok-put_bits_line.ensures.ok)
