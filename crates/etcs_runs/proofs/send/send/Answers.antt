use Rattle.std.proofs.Common.{◌∙◌, ◌+◌, ◌-◌, ap, refl, arith, length, take, drop, add-zero}
use Rattle.etcs_runs.specs.declared.ends.Failed.{Failed}
use Rattle.etcs_runs.proofs.Known.{Appends-slice, length-rest, wrote_some}
use Rattle.etcs_runs.proofs.send.send.Goals as goal

pub loop-at-preserved : goal.loop-at-preserved
loop-at-preserved g c =
    let text = c.args.text.now in
    let at = c.loop-at.at in
    let some = wrote_some Failed c.in_ok-count.count (take (length text - at) (drop at text)) c.if-count-eq0.false in
    record {
      within = omega (arith, c.in_ok-count.ensures.bound, length-rest text at);
      failures = c.in_ok-count.ensures.failed ∙ ap (λ n. g.W.Sink.failures c.loop-at.sink + n) some ∙ add-zero _ ∙ c.loop-at.invariant.failures;
      flushes = c.in_ok-count.ensures.unflushed ∙ c.loop-at.invariant.flushes;
      sent = omega (arith, c.loop-at.invariant.sent);
      appends = Appends-slice _ (g.W.Sink.contents c.loop-at.sink) _ text at c.in_ok-count.count _ refl c.loop-at.invariant.appends c.in_ok-count.ensures.bytes;
    }
