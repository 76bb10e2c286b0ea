use Rattle.std.proofs.Common.{[], ◌∷◌, refl}
use Rattle.etcs_vars.specs.declared.var.Var.TheVariants.{Q_TEXT}
use Rattle.etcs_bodies.specs.Formats.{reading}
use Rattle.etcs_bodies.specs.laws.PacketFormats.{passed_packet}
use Rattle.etcs_bodies.specs.laws.Passing.{number_alone, went_both}
use Rattle.etcs_parts.specs.TextFrames.{text_frame_format}
use Rattle.etcs_grouped.specs.FixedTexts.{fixed_text_packet}
use Rattle.etcs_grouped.specs.laws.FixedTexts.{fixed_text_ok}
use Rattle.etcs_grouped.proofs.fixed_text.FixedTextBody.pass.Goals as goal

pub returns-clause-passed : goal.returns-clause-passed
returns-clause-passed g c =
    let left = g.L.NextNumber.left in
    let with = g.S.VarSink.with in
    let both = g.met.S.VarSink.with_both in
    let first = left c.args.numbers.now in
    let out = c.args.out.now in
    let framed = left c.pass.new.numbers in
    let last = left c.next.new.self in
    let k = c.in-Some in
    λ yes.
    let (a, all, x) = c.in_ok-pass.ensures.passed c.if-not-branch.false in
    passed_packet fixed_text_packet fixed_text_ok 76 refl with both first last out c.send.new.self
    ((a, k.q_text), (all, k.ensures.admitted), went_both with both first framed last out c.pass.new.out c.send.new.self (reading text_frame_format a) ((Q_TEXT, k.q_text) ∷ []) x (record { taken = number_alone Q_TEXT k.q_text framed last k.ensures.next; sent = c.in_ok-send.ensures.ok }))
