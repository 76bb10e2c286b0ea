use Rattle.std.proofs.Common.{◌≡◌, ◌∙◌, ◌*◌, true, false, inl, inr, subst, sym, Bool, List}
use Rattle.etcs_vars.specs.Reading.{IsOutcome, done}
use Rattle.etcs_text.specs.Pairs.{PairsRead}
use Rattle.etcs_c.specs.Answers.{SaysNone}
use Rattle.etcs_c.specs.ItemFields.{packed, whole_bytes}
use Rattle.etcs_c.proofs.Readings.{pairs_front}
use Rattle.etcs_c.proofs.Whole.{built_said, missed_said, other_said, unfit_said}
use Rattle.etcs_c.proofs.built.from_fields.Goals as goal

pub returns-then-not-are_fit : goal.returns-then-not-are_fit
returns-then-not-are_fit c = unfit_said c.args.kind c.args.fields.now (λ fit. absurd (let no : true ≡ false = sym (c.are_fit.ensures.1 fit) ∙ c.if-not-are_fit.true in cc)) c.args.out.now c.args.answer.now

pub returns-in-Ok : goal.returns-in-Ok
returns-in-Ok c =
    let kind = c.args.kind in
    let fs = c.args.fields.now in
    let b = c.build in
    let vars = c.in-Ok.account.fields.items in
    let outcome = rw c.in-Ok.is at c.variables_of.ensures in
    let n = 8 * c.variables_of.new.answer.taken in
    let all = pairs_front kind (whole_bytes (packed fs)) (done vars n) (subst (λ (t : List Bool). IsOutcome (PairsRead kind) t (done vars n)) c.pack-count.ensures.bits outcome) in
    elim b.ensures [
      | inl h ↦ built_said kind fs vars all.2.1 h.0 _ c.are_bytes.ensures c.pack-count.ensures.bits c.args.out.now b.new.out b.result b.new.answer h.1
      | inr h ↦ elim h [
        | inl k ↦ other_said kind fs vars n all k.0 c.args.out.now b.new.out b.result b.new.answer k.1 k.2
        | inr starves ↦ inr (inr starves)
      ]
    ]

pub returns-in-Err : goal.returns-in-Err
returns-in-Err c =
    let fs = c.args.fields.now in
    let s = c.in-Err.status in
    let a = c.variables_of.new.answer in
    missed_said c.args.kind fs (c.are_fit.ensures.0 c.if-not-are_fit.false) c.args.out.now s a (subst (λ (t : List Bool). SaysNone (PairsRead c.args.kind) t s a) c.pack-count.ensures.bits c.in-Err.ensures)
