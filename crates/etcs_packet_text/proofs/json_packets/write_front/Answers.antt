use Rattle.std.proofs.Common.{◌++◌, ◌∙◌, ap, sym, append_assoc}
use Rattle.std.specs.Prelude.{codes, decimal}
use Rattle.std.proofs.lemmas.Result.{on_ok_weaker}
use Rattle.serde_json.specs.Written.{comma_if}
use Rattle.etcs_packet_text.specs.JsonParts.{fields_front}
use Rattle.etcs_packet_text.proofs.json_packets.write_front.Goals as goal

pub returns-in-Some-clause-ok : goal.returns-in-Some-clause-ok
returns-in-Some-clause-ok c =
    let a = c.args in
    let old = a.page.now.0 in
    let text = codes "{\"dir\":" ++ (decimal c.in-Some.dir ++ codes ",\"fields\":") in
    on_ok_weaker c.put_around.result (λ h.
    h
    ∙ ap (λ t. t ++ text) c.in_ok-write_comma.ensures.ok
    ∙ append_assoc old (comma_if a.later) text
    ∙ ap (λ o. old ++ (comma_if a.later ++ fields_front o)) (sym c.in-Some.is)) (rw c.from.ensures at c.put_around.ensures.ok)

pub returns-in-None-clause-ok : goal.returns-in-None-clause-ok
returns-in-None-clause-ok c =
    let a = c.args in
    let old = a.page.now.0 in
    on_ok_weaker c.put_array.result (λ h.
    h
    ∙ ap (λ t. t ++ codes "{\"fields\":") c.in_ok-write_comma.ensures.ok
    ∙ append_assoc old (comma_if a.later) (codes "{\"fields\":")
    ∙ ap (λ o. old ++ (comma_if a.later ++ fields_front o)) (sym c.in-None.is)) c.put_array.ensures.ok
