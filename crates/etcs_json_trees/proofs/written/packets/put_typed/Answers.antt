use Rattle.std.proofs.Common.{ℕ, ◌-◌, List, sym, ap, ◌∙◌, length, drop}
use Rattle.etcs_json_trees.proofs.WrittenPackets.{fields_put, typed_put}
use Rattle.etcs_json_trees.proofs.written.packets.put_typed.Goals as goal

pub returns : goal.returns
returns g c =
    let text = c.args.text.now in
    let nid = c.in_ok-nid.nid in
    let m = c.in_ok-after.after in
    let (r, framed, leaves, put) = c.in_ok-after.ensures in
    let there = c.take.ensures ∙ ap (λ (z : List ℕ). drop (length text - m) z) c.new-left.ensures in
    let is = fields_put nid c.in_ok-byte_and.field-0 c.args.dir m r text c.take.new.self c.pass.new.self c.byte_and.new.self leaves there c.in_ok-pass.ensures c.in_ok-byte_and.ensures c.if-branch-nid.false in
    typed_put g.P.AnyPacket.WAY c.args.dir _ text _ _ nid r c.byte_and.new.self framed (ap (λ (z : List ℕ). length z) (sym c.left.ensures)) is put
