use Rattle.std.proofs.Common.{◌≡◌, IfOk, subst, sym}
use Rattle.etcs_text.specs.declared.entry.Kind.{Kind}
use Rattle.etcs_text.specs.Verdicts.{IsVerdict}
use Rattle.etcs_log.proofs.readers.Readers.read.Goals as goal

pub returns-in-Long : goal.returns-in-Long
returns-in-Long c = subst (λ (k : Kind). IfOk c.read_in.result (λ v. IsVerdict k c.args.bytes.now v)) (sym c.in-Long.is) c.read_in.ensures.verdict

pub returns-in-Short : goal.returns-in-Short
returns-in-Short c = subst (λ (k : Kind). IfOk c.read_in-in-Short.result (λ v. IsVerdict k c.args.bytes.now v)) (sym c.in-Short.is) c.read_in-in-Short.ensures.verdict

pub returns-in-Radio : goal.returns-in-Radio
returns-in-Radio c = subst (λ (k : Kind). IfOk c.read_in-in-Radio.result (λ v. IsVerdict k c.args.bytes.now v)) (sym c.in-Radio.is) c.read_in-in-Radio.ensures.verdict

pub returns-in-Train : goal.returns-in-Train
returns-in-Train c = subst (λ (k : Kind). IfOk c.read_in-in-Train.result (λ v. IsVerdict k c.args.bytes.now v)) (sym c.in-Train.is) c.read_in-in-Train.ensures.verdict
