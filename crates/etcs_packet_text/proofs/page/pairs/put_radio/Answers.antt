use Rattle.std.proofs.Common.{◌∷◌, ◌++◌, ◌∙◌, ℕ, List, [], ap, sym, take, append_assoc}
use Rattle.etcs_packet_text.specs.Show.{hex_digits}
use Rattle.etcs_packet_text.proofs.PlainTexts.{plain_hex, quoted_plain}
use Rattle.etcs_packet_text.proofs.page.pairs.put_radio.Goals as goal

pub returns-clause-bytes : goal.returns-clause-bytes
returns-clause-bytes c =
    let digits = hex_digits 16 c.args.number in
    let old = take c.args.at c.args.place.now in
    c.put_bytes.ensures.bytes
    ∙ ap (λ (t : List ℕ). t ++ 34 ∷ 93 ∷ []) (c.put_hex-end.ensures.bytes ∙ ap (λ (t : List ℕ). t ++ digits) c.put_bytes-end.ensures.bytes)
    ∙ append_assoc (old ++ 34 ∷ []) digits (34 ∷ 93 ∷ [])
    ∙ append_assoc old (34 ∷ []) (digits ++ 34 ∷ 93 ∷ [])
    ∙ ap (λ (t : List ℕ). old ++ t) (sym (quoted_plain digits (93 ∷ []) (plain_hex 16 c.args.number)))
