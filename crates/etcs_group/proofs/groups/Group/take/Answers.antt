use Rattle.std.proofs.Common.{◌∙◌, ap, refl, sym}
use Rattle.etcs_telegram.specs.Telegrams.{HeaderValue}
use Rattle.etcs_group.proofs.GroupAdds.{joins_of}
use Rattle.etcs_group.proofs.groups.Group.take.Goals as goal

pub returns-in-Ok-clause-none : goal.returns-in-Ok-clause-none
returns-in-Ok-clause-none c =
    let g = c.args.self.now in
    let t = c.args.telegram in
    let h = c.header-header.ensures in
    let e = c.add.ensures in (
      (
        (sym c.if-nid_c-self.false ∙ c.nid_c.ensures ∙ ap (λ (x : HeaderValue). x.nid_c) h, sym c.if-nid_bg-self.false ∙ c.nid_bg.ensures ∙ ap (λ (x : HeaderValue). x.nid_bg) h),
        joins_of g.held t c.add.result c.in-Ok.field-0 c.in-Ok.is e.new e.repeat,
      ),
      record { same = (refl, refl); held = e.held; placed = e.placed; clashes = refl },
    )
