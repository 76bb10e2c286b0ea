use Rattle.std.proofs.Common.{◌++◌, ◌∙◌, ap, sym, append-nil}
use Rattle.serde_json.specs.Written.{comma_if}
use Rattle.etcs_packet_text.proofs.json_packets.write_comma.Goals as goal

pub returns-clause-ok : goal.returns-clause-ok
returns-clause-ok c =
    let old = c.args.page.now.0 in
    sym (append-nil old) ∙ ap (λ b. old ++ comma_if b) (sym c.if-later.false)
