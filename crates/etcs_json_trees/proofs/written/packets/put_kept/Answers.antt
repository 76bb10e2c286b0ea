use Rattle.std.proofs.Common.{ℕ, ◌+◌, List, sym, ap, ◌∙◌, length, refl}
use Rattle.etcs_json_trees.proofs.WrittenPackets.{frame_put, kept_put}
use Rattle.etcs_json_trees.proofs.WrittenRows.{ok_is}
use Rattle.etcs_json_trees.proofs.written.packets.put_kept.Goals as goal

pub returns : goal.returns
returns c =
    let way = c.args.way in
    let digits = c.in_ok-digits.digits.now in
    let len = c.frame_bits.result + length digits in
    let none = ok_is c.check_other.result c.ok.result c.in_ok-ok.field-0 _ c.ok.ensures.value c.in_ok-ok.was c.check_other.ensures.ok in
    let sent = ok_is c.send_frame.result c.ok-2.result c.in_ok-ok-2.field-0 _ c.ok-2.ensures.value c.in_ok-ok-2.was c.send_frame.ensures.ok in
    let framed = frame_put way way c.in_ok-nid.nid c.from.result c.in_ok-dir.dir len c.args.out.now c.send_frame.new.out refl c.from.ensures sent in
    kept_put way c.in_ok-nid.nid c.in_ok-dir.dir len _ c.args.text.now c.pass.new.self digits c.quoted.new.self c.pass-2.new.self c.direction.new.text c.pass-3.new.self c.byte_and.new.self _ _ _
    (sym c.new-left.ensures ∙ c.in_ok-pass.ensures) c.in_ok-digits.ensures c.in_ok-pass-2.ensures c.in_ok-dir.ensures c.in_ok-pass-3.ensures c.in_ok-nid.ensures none (ap (λ (k : ℕ). k + length digits) c.frame_bits.ensures.bits) framed c.in_ok-put_digits.ensures.some
    (ap (λ (z : List ℕ). length z) (sym c.left.ensures))
