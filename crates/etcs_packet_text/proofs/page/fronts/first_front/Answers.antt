use Rattle.std.proofs.Common.{◌∙◌, ap, take}
use Rattle.std.proofs.lemmas.List.{take-take}
use Rattle.etcs_packet_text.proofs.page.fronts.first_front.Goals as goal

pub returns-clause-front : goal.returns-clause-front
returns-clause-front c = ap (take c.args.len) c.in-Some.ensures.cases.same ∙ take-take c.args.len 32 c.args.bytes.now c.requires.len
