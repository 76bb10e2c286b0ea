use Rattle.std.proofs.Common.{◌∷◌, ◌++◌, [], refl}
use Rattle.std.proofs.lemmas.Option.{IfSome_then}
use Rattle.std.proofs.lemmas.Result.{IfOk-weaker}
use Rattle.hex.specs.Hex.{encode_upper}
use Rattle.serde_json.specs.Written.{compact_text}
use Rattle.etcs_text.specs.Trees.{json_tree}
use Rattle.etcs_stream.proofs.printer.convert_seen.Goals as goal

pub returns-in-Hex-clause-some : goal.returns-in-Hex-clause-some
returns-in-Hex-clause-some c = λ s.
    rw c.in-Hex.is (IfOk-weaker c.hex_seen.result _ _ (λ o h. IfSome_then o h (λ n (within, e, out, b, encoded, page). (within, e, out, encode_upper b ++ 10 ∷ [], ((b, encoded, refl), refl), page))) c.hex_seen.ensures.some)

pub returns-in-Bin-clause-some : goal.returns-in-Bin-clause-some
returns-in-Bin-clause-some c = λ s.
    rw c.in-Bin.is (IfOk-weaker c.bytes_seen.result _ _ (λ o h. IfSome_then o h (λ n (within, e, out, b, encoded, page). (within, e, out, b, (encoded, refl), page))) c.bytes_seen.ensures.some)

pub returns-in-Json-clause-some : goal.returns-in-Json-clause-some
returns-in-Json-clause-some c = λ s.
    rw c.in-Json.is (IfOk-weaker c.json_seen.result _ _ (λ o h. IfSome_then o h (λ n (within, e, out, page). (within, e, out, compact_text (json_tree e) ++ 10 ∷ [], (refl, refl), page))) c.json_seen.ensures.some)
