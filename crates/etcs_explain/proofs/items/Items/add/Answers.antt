use Rattle.std.proofs.Common.{◌∙◌, refl}
use Rattle.etcs_reasons.specs.declared.page.TheConstants.{HEAD}
use Rattle.etcs_explain.proofs.Taking.{grown, takes_bytes}
use Rattle.etcs_explain.proofs.items.Items.add.Goals as goal

pub returns-in-Ok-clause-ok : goal.returns-in-Ok-clause-ok
returns-in-Ok-clause-ok c = λ text next.
    let s = c.args.self.now in
    let e = c.extend_from_slice.new.self.items in
    let held_is = c.in_ok-extend_from_slice.ensures.items in
    let is = c.in-Ok.ensures.items ∙ grown s.lines.items s.held.items e c.args.bytes.now c.len.result _ s.line s.even held_is (c.len.ensures ∙ c.extend_from_slice.new.self.ok.0) s.lines.ok.0 in
    takes_bytes HEAD.now s _ c.args.bytes.now text next refl is held_is

pub returns-in-Ok-clause-held : goal.returns-in-Ok-clause-held
returns-in-Ok-clause-held c =
    let s = c.args.self.now in
    let held_is = c.in_ok-extend_from_slice.ensures.items in
    (held_is, c.in-Ok.ensures.items ∙ grown s.lines.items s.held.items c.extend_from_slice.new.self.items c.args.bytes.now c.len.result _ s.line s.even held_is (c.len.ensures ∙ c.extend_from_slice.new.self.ok.0) s.lines.ok.0)
