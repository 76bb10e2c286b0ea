use Rattle.std.proofs.Common.{◌≡◌, ◌∙◌, IfOk, subst}
use Rattle.etcs_text.specs.Verdicts.{IsVerdict}
use Rattle.etcs_text.specs.declared.entry.Kind.{Kind}
use Rattle.etcs_log.proofs.readers.read_in.Goals as goal

pub returns-in-Some-clause-verdict : goal.returns-in-Some-clause-verdict
returns-in-Some-clause-verdict c =
    let is : c.in-Some.reader.value ≡ c.args.kind = rw c.in-Some.is at c.requires in
    subst (λ (k : Kind). IfOk c.read.result (λ v. IsVerdict k c.args.bytes.now v)) (c.as_mut.ensures.value ∙ is) c.read.ensures.verdict

pub returns-clause-verdict : goal.returns-clause-verdict
returns-clause-verdict c = subst (λ (k : Kind). IfOk c.read-verdict.result (λ v. IsVerdict k c.args.bytes.now v)) (c.as_mut-2.ensures.value ∙ c.in_ok-reader.ensures) c.read-verdict.ensures.verdict
