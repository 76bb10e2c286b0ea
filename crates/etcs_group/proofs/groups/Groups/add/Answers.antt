use Rattle.std.proofs.Common.{sym, subst, arith, List, [], set}
use Rattle.etcs_group.specs.declared.groups.Group.{Group}
use Rattle.etcs_group.specs.ManyGroups.{AreDistinct, Indexes}
use Rattle.etcs_group.proofs.ManyGroups.{clash_with, distinct, changed, within, Had, had_here, adds_all_more}
use Rattle.etcs_group.proofs.groups.Groups.add.Goals as goal
use Rattle.etcs_group.proofs.groups.Groups.add.Goals.{After-add}

pub returns-in_err-place-clause-distinct : goal.returns-in_err-place-clause-distinct
returns-in_err-place-clause-distinct c = subst (λ (l : List Group). AreDistinct l) (sym c.in_err-place.ensures.err) c.open.ensures.distinct

pub index_mut-requires : goal.index_mut-requires
index_mut-requires c = omega (arith, within c.args.self.now c.open.new.self c.self.inside.groups.items c.nid_c.result c.nid_bg.result c.in_ok-place.place c.self.view_is c.in_ok-place.ensures.ok, c.self.inside.groups.ok.0)

has : (c : After-add) → Had c.args.self.now c.self.inside.groups.items c.args.telegram c.in_ok-place.place c.index_mut.result.now c.add.new.self
has c =
    had_here c.args.self.now c.open.new.self c.self.inside.groups.items c.args.telegram c.header-header.result.now c.nid_c.result c.nid_bg.result c.in_ok-place.place c.index_mut.result.now c.add.new.self c.header-header.ensures c.nid_c.ensures c.nid_bg.ensures c.self.view_is c.in_ok-place.ensures.ok c.index_mut.ensures.value c.add.ensures.after

indexes : (c : After-add) → Indexes c.self.inside.places (set c.self.inside.groups.items c.in_ok-place.place c.add.new.self)
indexes c = let h = has c in changed c.self.inside.places c.self.inside.groups.items c.self.invariant c.in_ok-place.place c.index_mut.result.now c.add.new.self h.at h.same

pub invariant_of-self : goal.invariant_of-self
invariant_of-self c = indexes (goal.at.invariant_of-self c).After-add

pub returns-clause-ok : goal.returns-clause-ok
returns-clause-ok c = (has (goal.at.returns-clause-ok c).After-add).adds

pub returns-clause-adds : goal.returns-clause-adds
returns-clause-adds c = λ earlier before.
    adds_all_more [] earlier c.args.self.now c.args.telegram (set c.self.inside.groups.items c.in_ok-place.place c.add.new.self) before (has (goal.at.returns-clause-adds c).After-add).adds

pub returns-clause-distinct : goal.returns-clause-distinct
returns-clause-distinct c = distinct c.self.inside.places (set c.self.inside.groups.items c.in_ok-place.place c.add.new.self) (indexes (goal.at.returns-clause-distinct c).After-add)

pub returns-clause-clash : goal.returns-clause-clash
returns-clause-clash c = clash_with c.args.self.now c.args.telegram c.index_mut.result.now c.add.result (has (goal.at.returns-clause-clash c).After-add).of c.add.ensures.clash c.add.ensures.joins
