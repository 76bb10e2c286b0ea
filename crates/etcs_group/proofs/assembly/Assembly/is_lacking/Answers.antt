use Rattle.std.proofs.Common.{◌∙◌, sym, ◌-◌, arith}
use Rattle.std.proofs.lemmas.Bool.{iff_false}
use Rattle.etcs_group.proofs.Positions.{none_from, lacking}
use Rattle.etcs_group.proofs.assembly.Assembly.is_lacking.Goals as goal

pub returns-else-position-eq0 : goal.returns-else-position-eq0
returns-else-position-eq0 c =
    lacking c.args.self.now c.args.position (c.args.position - 1) c.is_held_as-else-position-eq0.result (omega arith)
    (none_from c.at.result c.at.ensures.none (sym c.is_some.ensures ∙ c.if-is_some.false))
    (iff_false c.is_held_as.ensures c.if-is_held_as.false)
    c.is_held_as-else-position-eq0.ensures
