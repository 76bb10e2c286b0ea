use Rattle.std.proofs.Common.{◌++◌}
use Rattle.etcs_vars.specs.Reading.{spelled}
use Rattle.etcs_vars.specs.laws.BitPages.{bits_both}
use Rattle.etcs_vars.proofs.Sends.{sent_rest}
use Rattle.etcs_vars.proofs.bit_page.BitPageVarSink.send.Goals as goal

pub returns-in_ok-put_rest-clause-ok : goal.returns-in_ok-put_rest-clause-ok
returns-in_ok-put_rest-clause-ok c = sent_rest (λ s r. s ++ spelled r) bits_both c.args.self.now c.put_front.new.self c.put_rest.new.self c.args.sent.now c.in_ok-done.done c.in_ok-done.ensures.ok c.in_ok-put_rest.ensures.ok
