use Rattle.std.proofs.Common.{sym, ◌∙◌, ap, subst, arith, List, ◌++◌, ◌∷◌, []}
use Rattle.etcs_group.specs.declared.groups.Group.{Group}
use Rattle.etcs_group.specs.ManyGroups.{HasNone}
use Rattle.etcs_group.proofs.ManyGroups.{pushed_as, on_ok}
use Rattle.etcs_group.proofs.groups.Groups.begin.Goals as goal

pub invariant_of-self-else-is_err : goal.invariant_of-self-else-is_err
invariant_of-self-else-is_err c =
    let gs = c.self.inside.groups.items in
    let none : HasNone gs c.args.nid_c c.args.nid_bg = subst (λ (l : List Group). HasNone l c.args.nid_c c.args.nid_bg) (sym c.self.view_is) c.requires in
    pushed_as c.self.inside.places c.insert.new.self gs c.push.new.self.items c.args.nid_c c.args.nid_bg c.key_of.result c.len-place.result c.self.invariant none (omega arith) c.key_of.ensures (omega (arith, c.self.inside.groups.ok.0)) (on_ok c.insert.result (sym c.is_err.ensures.value ∙ c.if-is_err.false) c.insert.ensures.updates) (c.in_ok-push.ensures.items ∙ ap (λ (g : Group). gs ++ g ∷ []) c.new.ensures)
