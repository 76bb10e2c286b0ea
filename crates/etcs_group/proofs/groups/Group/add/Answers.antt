use Rattle.etcs_group.proofs.Joining.{joins_not}
use Rattle.etcs_group.proofs.GroupAdds.{joins_of, after_held, after_clash}
use Rattle.etcs_group.proofs.groups.Group.add.Goals as goal
use Rattle.etcs_group.proofs.groups.Group.add.Goals.{in-Ok, in-Err}

pub returns-clause-after : goal.returns-clause-after
returns-clause-after c =
    let g = c.args.self.now in
    let t = c.args.telegram in
    elim c.match-add.branch [
      | in-Ok w ↦ after_held g t c.add.new.self c.add.ensures.held c.add.ensures.placed c.match-add.self w.self-is (joins_of g.held t c.add.result w.in-Ok.field-0 w.in-Ok.is c.add.ensures.new c.add.ensures.repeat)
      | in-Err w ↦
          after_clash g t c.add.new.self c.add.ensures.held c.add.ensures.placed c.match-add.self w.saturating_add-self.result w.self-is w.saturating_add-self.ensures
          (joins_not g.held t w.in-Err.clash w.in-Err.ensures.clash.0)
    ]
