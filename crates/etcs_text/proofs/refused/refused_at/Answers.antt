use Rattle.std.proofs.Common.{sym, subst}
use Rattle.std.specs.Prelude.{IfSome}
use Rattle.etcs_bits.specs.Bits.{bits}
use Rattle.etcs_vars.specs.Reading.{IsOutcome, refused}
use Rattle.etcs_text.specs.declared.entry.Kind.{Kind}
use Rattle.etcs_text.specs.Entries.{EntryReads}
use Rattle.etcs_text.proofs.refused.refused_at.Goals as goal

pub returns-in-Long : goal.returns-in-Long
returns-in-Long c = subst (λ (kind : Kind). IfSome c.telegram_refused_at.result (λ t. IsOutcome (EntryReads kind) (bits c.args.bytes.now) (refused t.0 t.1))) (sym c.in-Long.is) c.telegram_refused_at.ensures

pub returns-in-Short : goal.returns-in-Short
returns-in-Short c = subst (λ (kind : Kind). IfSome c.telegram_refused_at-in-Short.result (λ t. IsOutcome (EntryReads kind) (bits c.args.bytes.now) (refused t.0 t.1))) (sym c.in-Short.is) c.telegram_refused_at-in-Short.ensures

pub returns-in-Radio : goal.returns-in-Radio
returns-in-Radio c = subst (λ (kind : Kind). IfSome c.radio_refused_at.result (λ t. IsOutcome (EntryReads kind) (bits c.args.bytes.now) (refused t.0 t.1))) (sym c.in-Radio.is) c.radio_refused_at.ensures

pub returns-in-Train : goal.returns-in-Train
returns-in-Train c = subst (λ (kind : Kind). IfSome c.train_refused_at.result (λ t. IsOutcome (EntryReads kind) (bits c.args.bytes.now) (refused t.0 t.1))) (sym c.in-Train.is) c.train_refused_at.ensures
