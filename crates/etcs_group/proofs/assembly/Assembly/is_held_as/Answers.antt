use Rattle.std.proofs.Common.{◌∙◌, ap}
use Rattle.etcs_telegram.specs.Telegrams.{HeaderValue}
use Rattle.etcs_group.proofs.Positions.{held_as}
use Rattle.etcs_group.proofs.assembly.Assembly.is_held_as.Goals as goal

pub returns-in-Some : goal.returns-in-Some
returns-in-Some c =
    held_as c.args.self.now c.args.position c.args.m_dup c.in-Some.telegram.now c.m_dup.result
    (c.m_dup.ensures ∙ ap (λ (h : HeaderValue). h.m_dup) c.header.ensures)
    c.in-Some.ensures.some.0 c.in-Some.ensures.some.1 c.in-Some.ensures.only
