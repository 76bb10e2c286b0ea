use Rattle.std.proofs.Common.{◌∙◌, ap, sym}
use Rattle.etcs_packet_text.specs.PairSinks.{Listed, with_pairs}
use Rattle.etcs_packet_text.proofs.Places.{pairs_are}
use Rattle.etcs_packet_text.proofs.json_page.JsonPageVarSink.send.Goals as goal

pub returns-clause-ok : goal.returns-clause-ok
returns-clause-ok c =
    pairs_are c.args.self.now c.args.sent.now c.put_pairs.new.self (sym c.is_empty.ensures ∙ c.if-is_empty.false)
    (c.in_ok-put_pairs.ensures.ok ∙ ap (λ (s : Listed). (with_pairs s c.args.sent.now).0) c.self.view_is)
