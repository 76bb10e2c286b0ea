use Rattle.std.proofs.Common.{refl}
use Rattle.etcs_json_trees.proofs.WrittenPackets.{pairs_put, row_passed}
use Rattle.etcs_json_trees.proofs.written.packets.put_pairs.Goals as goal

pub returns : goal.returns
returns g c =
    let way = g.P.AnyPacket.WAY in
    let passed = row_passed way c.args.nid _ _ _ _ _ c.pass.result c.ok.result c.in_ok-passed.passed c.in_ok-passed-2.field-0 c.ok.ensures.value c.in_ok-passed.was c.in_ok-passed-2.was c.if-not-branch.false c.pass.ensures.passed in
    pairs_put way c.args.nid c.args.text.now _ _ _ _ _ _ _ _ c.in_ok-pairs.ensures passed c.in_ok-end.ensures refl
