use Rattle.std.proofs.Common.{◌++◌, ◌∙◌, List, ℕ, take, ap}
use Rattle.etcs_packet_text.proofs.page.bits.put_byte.Goals as goal

pub returns-clause-bytes : goal.returns-clause-bytes
returns-clause-bytes c =
    c.put_bytes.ensures.bytes ∙ ap (λ (t : List ℕ). take c.args.at c.args.place.now ++ t) c.byte_digits-digits.ensures
