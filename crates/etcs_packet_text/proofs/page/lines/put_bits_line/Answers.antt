use Rattle.std.proofs.Common.{◌++◌, ◌∷◌, ◌∙◌, [], List, ℕ, take, ap, sym, append_assoc}
use Rattle.etcs_vars.specs.Vars.{name}
use Rattle.etcs_packet_text.specs.Show.{line_front}
use Rattle.etcs_packet_text.proofs.Places.{none_line}
use Rattle.etcs_packet_text.proofs.page.lines.put_bits_line.Goals as goal

pub returns-then-is_empty-clause-bytes : goal.returns-then-is_empty-clause-bytes
returns-then-is_empty-clause-bytes c =
    let old = take c.args.at c.args.place.now in
    c.put_bytes.ensures.bytes
    ∙ ap (λ (z : List ℕ). z ++ 48 ∷ 10 ∷ []) (c.put_front-end.ensures.bytes ∙ ap (λ (z : List ℕ). old ++ z) c.line_front.ensures.front)
    ∙ append_assoc old (line_front c.args.var) (48 ∷ 10 ∷ [])
    ∙ ap (λ (z : List ℕ). old ++ z) (none_line (name c.args.var) c.args.bits.now (sym c.is_empty.ensures ∙ c.if-is_empty.true))
