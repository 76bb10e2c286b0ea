use Rattle.std.proofs.Common.{◌++◌, length, ap, ◌∙◌, arith}
use Rattle.std.proofs.lemmas.List.{take_rest, length-drop}
use Rattle.etcs_vars.specs.Reading.{spelled}
use Rattle.etcs_vars.specs.laws.BitPages.{bits_both}
use Rattle.etcs_vars.proofs.Sends.{sent_more}
use Rattle.etcs_vars.proofs.bit_page.BitPage.put_rest.Goals as goal

pub loop-done-preserved : goal.loop-done-preserved
loop-done-preserved c =
    let l = c.loop-done in
    let sent = c.args.sent.now in
    let within = l.invariant.within in
    let most = c.in_ok-done.ensures.some.1 in
    record {
      within = omega (arith, within, most, ap length (take_rest sent l.done) ∙ length-drop l.done sent);
      sent = sent_more (λ s r. s ++ spelled r) bits_both c.args.self.now l.self c.put_front.new.self sent l.done c.in_ok-done.field-0 l.invariant.sent c.in_ok-done.ensures.ok;
    }
