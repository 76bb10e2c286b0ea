use Rattle.std.proofs.lemmas.Result.{on_ok_weaker}
use Rattle.etcs_text.proofs.encodings.hex_line.Goals as goal

pub returns-clause-ok : goal.returns-clause-ok
returns-clause-ok c =
    let (added, encoded, is) = c.in_ok-encoded.ensures.ok in
    on_ok_weaker c.append_digits.result (λ h. (added, encoded, rw (c.as_slice.ensures.value, is, c.new-bytes.ensures.items) at h)) c.append_digits.ensures.ok
