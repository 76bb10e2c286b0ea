use Rattle.std.proofs.Common.{◌++◌, Bool, List, sym, ap, ◌∙◌, arith}
use Rattle.std.specs.Prelude.{IsTrue}
use Rattle.etcs_vars.specs.Reading.{spelled}
use Rattle.etcs_tables.specs.declared.row.Way.{Way}
use Rattle.etcs_tables.specs.Frames.{frame_bits, is_direction}
use Rattle.etcs_json_trees.proofs.WrittenPackets.{body_long, frame_put}
use Rattle.etcs_json_trees.proofs.WrittenRows.{ok_is}
use Rattle.etcs_json_trees.proofs.written.packets.put_body.Goals as goal

pub put_packet_len-requires : goal.put_packet_len-requires
put_packet_len-requires g c =
    let way = g.P.AnyPacket.WAY in
    let (r, row, leaves, passed) = c.in_ok-after.ensures in
    let sent = ok_is c.send_frame.result c.ok.result c.in_ok-ok.field-0 _ c.ok.ensures.value c.in_ok-ok.was c.send_frame.ensures.ok in
    let framed = frame_put way c.WAY-way.result c.args.nid c.from.result c.args.dir 0 c.args.out.now c.send_frame.new.out c.WAY-way.ensures c.from.ensures sent in
    omega (arith, body_long way c.args.nid c.args.dir r c.args.out.now c.send_frame.new.out c.put_pairs.new.out framed passed, c.len-start.ensures, ap frame_bits c.WAY-way.ensures)

pub returns : goal.returns
returns g c =
    let way = g.P.AnyPacket.WAY in
    let (r, row, leaves, passed) = c.in_ok-after.ensures in
    let sent = ok_is c.send_frame.result c.ok.result c.in_ok-ok.field-0 _ c.ok.ensures.value c.in_ok-ok.was c.send_frame.ensures.ok in
    let framed = frame_put way c.WAY-way.result c.args.nid c.from.result c.args.dir 0 c.args.out.now c.send_frame.new.out c.WAY-way.ensures c.from.ensures sent in
    let directed : IsTrue (is_direction way c.args.dir) = ap (λ (w : Way). is_direction w c.args.dir) (sym c.WAY-way.ensures) ∙ sym c.is_direction.ensures ∙ c.if-not-is_direction.false in
    let measured = rw c.WAY-way.ensures at c.in_ok-put_packet_len.ensures.some in
    let (short, put) = measured c.args.nid c.args.dir r c.args.out.now c.len-start.ensures (passed ∙ ap (λ (b : List Bool). b ++ spelled r) framed) in
    (r, row c.args.dir directed short, leaves, put)
