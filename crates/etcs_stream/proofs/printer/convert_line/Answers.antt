use Rattle.std.proofs.Common.{◌∷◌, ◌++◌, [], refl}
use Rattle.std.proofs.lemmas.Result.{on_ok_weaker}
use Rattle.hex.specs.Hex.{encode_upper}
use Rattle.serde_json.specs.Written.{compact_text}
use Rattle.etcs_text.specs.Trees.{json_tree}
use Rattle.etcs_stream.proofs.printer.convert_line.Goals as goal

pub returns-in-Hex-clause-ok : goal.returns-in-Hex-clause-ok
returns-in-Hex-clause-ok c s e encoded line =
    rw c.in-Hex.is (on_ok_weaker c.write_digits.result (λ page. (encode_upper c.args.bytes.now ++ 10 ∷ [], ((c.args.bytes.now, encoded, refl), refl), page)) c.write_digits.ensures.ok)

pub returns-in-Bin-clause-ok : goal.returns-in-Bin-clause-ok
returns-in-Bin-clause-ok c s e encoded line =
    rw c.in-Bin.is (on_ok_weaker c.put.result (λ page. (c.args.bytes.now, (encoded, refl), page)) c.put.ensures.ok)

pub returns-in-Json-clause-ok : goal.returns-in-Json-clause-ok
returns-in-Json-clause-ok c s e encoded line =
    rw c.in-Json.is (on_ok_weaker c.write_text.result (λ page. (compact_text (json_tree e) ++ 10 ∷ [], (refl, refl), rw line at page)) c.write_text.ensures.ok)
