use Rattle.std.proofs.Common.{◌++◌, ℕ, List, ap, ◌∙◌}
use Rattle.std.proofs.lemmas.Result.{on_ok_weaker}
use Rattle.std.specs.Prelude.{string_bytes}
use Rattle.etcs_reasons.specs.declared.page.TheConstants.{HEAD}
use Rattle.etcs_explain.proofs.Writing.{writes_part}
use Rattle.etcs_explain.proofs.explainer.Explainer.pass_on.Goals as goal

pub returns-clause-ok : goal.returns-clause-ok
returns-clause-ok c =
    on_ok_weaker c.put.result (λ added. writes_part HEAD.now c.args.self.now.task c.args.self.now.seen.is_begun c.args.is_item _ c.args.line c.args.page.now c.put.new.self (string_bytes c.in_ok-part.part) _ _ _ _ _ c.head-head.ensures c.opening-opening.ensures c.number-number.ensures (c.as_str.ensures.value ∙ c.in_ok-place.ensures) c.in_ok-part.ensures (added ∙ ap (λ (z : List ℕ). c.args.page.now ++ z) c.as_bytes.ensures.value)) c.put.ensures.ok
