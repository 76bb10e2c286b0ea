use Rattle.std.proofs.Common.{[], ap, map, refl, ◌∙◌}
use Rattle.std.proofs.lemmas.Result.{err_from_is_err_and, on_err_weaker, on_ok_weaker}
use Rattle.etcs_reasons.specs.declared.page.TheConstants.{HEAD}
use Rattle.etcs_explain.specs.Inputs.{of_byte}
use Rattle.etcs_explain.proofs.Taking.{refused_line, some_bytes_of_line, some_ended, takes_bytes_of_line}
use Rattle.etcs_explain.proofs.items.Items.take.Goals as goal

pub returns-in_err-end_cut-clause-err : goal.returns-in_err-end_cut-clause-err
returns-in_err-end_cut-clause-err c =
    let p = err_from_is_err_and c.from_residual.result c.from_residual.ensures.1 in
    rw p.1 (some_ended HEAD.now c.args.self.now c.end_cut.new.self c.args.page.now c.end_cut.new.page (map (of_byte c.args.self.now.line) c.args.bytes.now) c.in_err-end_cut.ensures.err)

pub returns-in_err-add-clause-err : goal.returns-in_err-add-clause-err
returns-in_err-add-clause-err c =
    let p = err_from_is_err_and c.from_residual-in_err-add.result c.from_residual-in_err-add.ensures.1 in
    rw p.1 (refused_line HEAD.now c.args.self.now c.end_cut.new.self c.add.new.self c.args.page.now c.end_cut.new.page (map (of_byte c.args.self.now.line) c.args.bytes.now) c.in_ok-end_cut.ensures.ok c.add.ensures.same.0)

pub returns-clause-ok : goal.returns-clause-ok
returns-clause-ok c =
    on_ok_weaker c.pass.result (λ k. takes_bytes_of_line HEAD.now c.args.self.now c.end_cut.new.self c.add.new.self c.pass.new.self c.args.bytes.now c.args.page.now c.end_cut.new.page c.pass.new.page c.end_cut.ensures.same.0 c.add.ensures.same.0 c.end_cut.ensures.same.1 c.requires.some c.in_ok-add.ensures.held.1 c.in_ok-add.ensures.held.0 c.in_ok-end_cut.ensures.uncut c.in_ok-end_cut.ensures.ok c.in_ok-add.ensures.ok k) c.pass.ensures.ok

pub returns-clause-err : goal.returns-clause-err
returns-clause-err c =
    on_err_weaker c.pass.result (λ k. some_bytes_of_line HEAD.now c.args.self.now c.end_cut.new.self c.add.new.self c.pass.new.self c.args.bytes.now c.args.page.now c.end_cut.new.page c.pass.new.page c.end_cut.ensures.same.0 c.add.ensures.same.0 c.end_cut.ensures.same.1 c.requires.some c.in_ok-add.ensures.held.1 c.in_ok-add.ensures.held.0 c.in_ok-end_cut.ensures.uncut c.in_ok-end_cut.ensures.ok c.in_ok-add.ensures.ok k) c.pass.ensures.err
