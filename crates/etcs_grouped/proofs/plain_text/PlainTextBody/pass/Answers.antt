use Rattle.std.proofs.Common.{refl}
use Rattle.etcs_bodies.specs.Formats.{part}
use Rattle.etcs_bodies.specs.laws.PacketFormats.{passed_packet}
use Rattle.etcs_bodies.specs.laws.Passing.{passed_pair}
use Rattle.etcs_parts.specs.TextFrames.{text_frame_format}
use Rattle.etcs_grouped.specs.PlainTexts.{text_format, plain_text_packet}
use Rattle.etcs_grouped.specs.laws.PlainTexts.{plain_text_ok}
use Rattle.etcs_grouped.proofs.plain_text.PlainTextBody.pass.Goals as goal

pub returns-in_ok-pass_text-clause-passed : goal.returns-in_ok-pass_text-clause-passed
returns-in_ok-pass_text-clause-passed g c =
    let left = g.L.NextNumber.left in
    let with = g.S.VarSink.with in
    let both = g.met.S.VarSink.with_both in
    let first = left c.args.numbers.now in
    let out = c.args.out.now in
    let framed = left c.pass.new.numbers in
    let last = left c.pass_text.new.numbers in
    λ yes. passed_packet plain_text_packet plain_text_ok 72 refl with both first last out c.pass_text.new.out
    (passed_pair with both (part text_frame_format) text_format first framed last out c.pass.new.out c.pass_text.new.out (c.in_ok-pass.ensures.passed c.if-branch.true) (c.in_ok-pass_text.ensures.passed yes))
