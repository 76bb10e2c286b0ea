use Rattle.std.proofs.Common.{◌≡◌, ◌+◌, ◌<◌, ◌++◌, Bool, List, ap, ◌∙◌, length, refl, sym, arith}
use Rattle.serde_json.specs.View.{view}
use Rattle.etcs_vars.specs.declared.var.Var.TheVariants.{OTHER_DATA}
use Rattle.etcs_vars.specs.Reading.{spelled}
use Rattle.etcs_vars.specs.Reading as sent
use Rattle.etcs_tables.specs.Frames.{frame_bits}
use Rattle.etcs_json_trees.proofs.PacketTrees.{kept_full, kept_refused, kept_sent, kept_there}
use Rattle.etcs_json_trees.proofs.WrittenPackets.{frame_put}
use Rattle.etcs_json_trees.proofs.packet_trees.put_kept.Goals as goal

pub returns-then-is_err-clause-invalid : goal.returns-then-is_err-clause-invalid
returns-then-is_err-clause-invalid c = λ refused b packet is room.
    kept_refused c.args.way c.args.nid c.stand_in.result c.args.dir c.len.result c.in_ok-bits.bits b (view c.args.bits.now) c.check_other.result (sym c.is_err.ensures.value ∙ c.if-is_err.true) c.stand_in.ensures c.len.ensures c.check_other.ensures.fault c.in_ok-bits.ensures.ok packet is

pub returns-then-len-room-clause-invalid : goal.returns-then-len-room-clause-invalid
returns-then-len-room-clause-invalid c = λ refused b packet is room.
    (let old = c.args.out.now in
    let far : 8184 < length old + (frame_bits c.args.way + length c.in_ok-bits.bits) = omega (arith, c.if-len-room.true, c.in-Some.ensures.0, c.in-Some.ensures.1, c.len-3.ensures, c.len-2.ensures, c.frame_bits.ensures.bits) in
    kept_full c.args.way c.args.nid c.args.dir c.in_ok-bits.bits b old (view c.args.bits.now) c.in_ok-bits.ensures.ok far is room)

pub returns-clause-ok : goal.returns-clause-ok
returns-clause-ok c =
    let way = c.args.way in
    let b = c.in_ok-bits.bits in
    let old = c.args.out.now in
    let mid = c.send_frame.new.out in
    let len = c.frame_bits.result + c.len-2.result in
    let there = kept_there way c.args.nid c.stand_in.result c.args.dir c.len.result b c.check_other.result (sym c.is_err.ensures.value ∙ c.if-is_err.false) c.stand_in.ensures c.len.ensures c.check_other.ensures.ok in
    let long : len ≡ frame_bits way + length b = omega (arith, c.frame_bits.ensures.bits, c.len-2.ensures) in
    let framed = frame_put way way c.args.nid c.from.result c.args.dir len old mid refl c.from.ensures c.in_ok-send_frame.ensures.ok in
    let put : c.send_bits.new.out ≡ mid ++ spelled (sent.kept OTHER_DATA b) = c.in_ok-send_bits.ensures.ok ∙ ap (λ (x : List Bool). mid ++ spelled (sent.kept OTHER_DATA x)) c.as_slice.ensures in
    (b, there, c.in_ok-bits.ensures.ok, kept_sent way c.args.nid c.args.dir len b old mid c.send_bits.new.out long framed put)
