use Rattle.std.proofs.Common.{◌≡◌, ◌∙◌, ◌/◌, length, take, ap, sym, arith}
use Rattle.std.proofs.Math.Seq.{take-length}
use Rattle.std.proofs.lemmas.List.{length-take-le, take-append-le}
use Rattle.etcs_stream.proofs.GoodLines.{bad_first, decoded_bytes, decoded_good}
use Rattle.etcs_stream.proofs.digits.decode_line.Goals as goal

pub decode-requires : goal.decode-requires
decode-requires c =
    let front = length-take-le (length c.args.line.now / 2) c.args.buffer.now (omega arith) in
    omega (arith, front)

pub returns-then-decode-clause-good : goal.returns-then-decode-clause-good
returns-then-decode-clause-good c =
    decoded_good c.args.line.now _ c.if-line-gt-MOST_CHARACTERS.false (c.decode.ensures.bytes c.if-decode.true)

pub returns-then-decode-clause-bytes : goal.returns-then-decode-clause-bytes
returns-then-decode-clause-bytes c =
    let count = length c.args.line.now / 2 in
    let bytes = c.decode.new.bytes in
    let room : length bytes ≡ count = c.decode.ensures.room ∙ length-take-le count c.args.buffer.now (omega arith) in
    take-append-le count bytes _ (omega (arith, room)) ∙ ap (λ n. take n bytes) (sym room) ∙ take-length bytes
    ∙ decoded_bytes c.args.line.now bytes (c.decode.ensures.bytes c.if-decode.true)

pub returns-clause-bad : goal.returns-clause-bad
returns-clause-bad c =
    bad_first c.args.line.now c.first_bad.result c.if-line-gt-MOST_CHARACTERS.false c.if-line-eq1.false (sym c.decode.ensures.good ∙ c.if-decode.false) c.first_bad.ensures
