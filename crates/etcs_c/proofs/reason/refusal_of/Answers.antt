use Rattle.std.proofs.Common.{ℕ, refl}
use Rattle.etcs_bits.specs.Bits.{bits}
use Rattle.etcs_vars.specs.declared.var.Var.{Var}
use Rattle.etcs_vars.specs.Reading.{IsOutcome, refused}
use Rattle.etcs_text.specs.Entries.{EntryReads}
use Rattle.etcs_text.proofs.Fronts.{outcome_refused, refuses_front}
use Rattle.etcs_c.proofs.Saying.{none_refused_said}
use Rattle.etcs_c.proofs.reason.refusal_of.Goals as goal

pub returns-in-Some : goal.returns-in-Some
returns-in-Some c =
    let r = c.in-Some.refusal in
    let (refuses, explains) = c.in-Some.ensures in
    (c.refuse.ensures.bit, c.refuse.ensures.var, outcome_refused c.args.kind (bits c.args.bytes.now) r.bit r.var refuses, explains)

pub returns-in-None : goal.returns-in-None
returns-in-None c =
    let kind = c.args.kind in
    let b = bits c.args.bytes.now in
    let none : (i : ℕ) (x : Var) → IsOutcome (EntryReads kind) b (refused i x) → ⊥ = λ i x o. c.in-None.ensures i x (refuses_front kind b i x o) in
    (none_refused_said kind b none c.check-status.result c.check-status.new.answer _ c.check-status.ensures refl refl, none)
