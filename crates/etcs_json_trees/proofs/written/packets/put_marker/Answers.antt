use Rattle.std.proofs.Common.{ℕ, List, sym, ap, ◌∙◌, length}
use Rattle.etcs_json_trees.proofs.WrittenPackets.{marker_put}
use Rattle.etcs_json_trees.proofs.WrittenRows.{ok_is}
use Rattle.etcs_json_trees.proofs.written.packets.put_marker.Goals as goal

pub returns : goal.returns
returns c =
    let put = ok_is c.send.result c.ok.result c.in_ok-ok.field-0 _ c.ok.ensures.value c.in_ok-ok.was c.send.ensures.ok in
    marker_put c.in_ok-byte_and.field-0 c.from-number.result c.args.text.now c.pass.new.self c.byte_and.new.self c.pass-2.new.self _ _ _ (sym c.new-left.ensures ∙ c.in_ok-pass.ensures) c.in_ok-byte_and.ensures c.in_ok-pass-2.ensures c.from-number.ensures
    (sym c.admits.ensures ∙ c.if-not-admits.false) put (ap (λ (z : List ℕ). length z) (sym c.left.ensures))
