use Rattle.std.proofs.Common.{◌∙◌, sym, true}
use Rattle.std.specs.Cmp.{booleans_Decides}
use Rattle.std.proofs.Math.Bool.{beq}
use Rattle.std.proofs.lemmas.List.Elements.{contains_decides, Decides-contains}
use Rattle.etcs_group.proofs.Positions.{none_from, some_from}
use Rattle.etcs_group.proofs.Wholes.{none_missing, nothing_held}
use Rattle.etcs_group.proofs.assembly.Assembly.is_complete.Goals as goal

pub returns-then-is_some : goal.returns-then-is_some
returns-then-is_some c =
    none_missing c.args.self.now c.missing.result c.contains.result (some_from c.total.result c.total.ensures.held (sym c.is_some.ensures ∙ c.if-is_some.true)).1 c.missing.ensures
    (Decides-contains c.missing.result true c.contains.result (contains_decides beq booleans_Decides c.missing.result true c.contains.result c.contains.ensures.cases))

pub returns-else-is_some : goal.returns-else-is_some
returns-else-is_some c = nothing_held c.args.self.now c.is_some.result c.if-is_some.false (none_from c.total.result c.total.ensures.none (sym c.is_some.ensures ∙ c.if-is_some.false))
