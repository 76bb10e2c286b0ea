use Rattle.std.proofs.Common.{length, ap, ◌∙◌, arith}
use Rattle.std.proofs.lemmas.List.{take_rest, length-drop}
use Rattle.etcs_vars.specs.Reading.{spelled}
use Rattle.etcs_vars.specs.WordSinks.{and_bits}
use Rattle.etcs_vars.specs.laws.WordSinks.{spelled_both}
use Rattle.etcs_vars.proofs.Sends.{sent_more}
use Rattle.etcs_vars.proofs.word_sink.WordSink.put_rest.Goals as goal

pub loop-done-preserved : goal.loop-done-preserved
loop-done-preserved c =
    let l = c.loop-done in
    let sent = c.args.sent.now in
    let within = l.invariant.within in
    let most = c.put_front-done.ensures.most in
    record {
      within = omega (arith, within, most, ap length (take_rest sent l.done) ∙ length-drop l.done sent);
      sent = sent_more (λ s r. and_bits s (spelled r)) spelled_both c.args.self.now l.self c.put_front-done.new.self sent l.done c.put_front-done.result l.invariant.sent c.put_front-done.ensures.sent;
    }
