use Rattle.std.proofs.Common.{◌∙◌, ap}
use Rattle.etcs_telegram.specs.Telegrams.{HeaderValue}
use Rattle.etcs_group.proofs.GroupAdds.{first_held}
use Rattle.etcs_group.proofs.groups.Group.of.Goals as goal

pub returns : goal.returns
returns c =
    let h = c.header-header.ensures in
    first_held c.new-group.result c.args.telegram c.nid_c.result c.nid_bg.result c.add.new.self c.new-group.ensures (c.nid_c.ensures ∙ ap (λ (x : HeaderValue). x.nid_c) h) (c.nid_bg.ensures ∙ ap (λ (x : HeaderValue). x.nid_bg) h) c.add.ensures.held c.add.ensures.placed
