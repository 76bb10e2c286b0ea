use Rattle.std.proofs.Common.{◌++◌, ◌∙◌, ap, append_assoc}
use Rattle.std.specs.Prelude.{codes}
use Rattle.std.proofs.lemmas.Result.{on_ok_weaker}
use Rattle.serde_json.specs.Written.{comma_if}
use Rattle.etcs_packet_text.proofs.JsonPackets.{kept_steps}
use Rattle.etcs_packet_text.proofs.json_packets.write_kept.Goals as goal

pub returns-clause-ok : goal.returns-clause-ok
returns-clause-ok c =
    let a = c.args in
    let old = a.page.now.0 in
    let front = c.in_ok-put.ensures.ok ∙ ap (λ t. t ++ codes "{\"data\":\"") c.in_ok-write_comma.ensures.ok ∙ append_assoc old (comma_if a.later) (codes "{\"data\":\"") in
    on_ok_weaker c.put_decimal_and.result (λ h. kept_steps a.way a.nid a.dir c.sent_dir.result a.later a.body.now old c.put.new.self.0 c.put_slice.new.self.0 c.write_after.new.page.0 c.put_decimal_and.new.self.0 c.sent_dir.ensures front c.in_ok-put_slice.ensures.ok c.in_ok-write_after.ensures.ok h) (rw c.from.ensures at c.put_decimal_and.ensures.ok)
