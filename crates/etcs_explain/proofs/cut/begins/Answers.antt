use Rattle.std.proofs.Common.{◌≡◌, ℕ, Bool, true, false, ap, refl, sym, ◌∙◌, ◌/◌, ◌<◌, ◌^◌, arith, length}
use Rattle.std.specs.Prelude.{IsTrue, not}
use Rattle.etcs_vars.specs.Reading.{spelled}
use Rattle.std.proofs.lemmas.Bool.{both_ways, eqb-true, eq-eqb, false≢true, not-true}
use Rattle.etcs_text.proofs.ItemLengths.{item_length}
use Rattle.etcs_explain.specs.Cuts.{is_kept}
use Rattle.etcs_explain.proofs.Cutting.{begins_open, begins_refused, begins_whole}
use Rattle.etcs_explain.proofs.cut.begins.Goals as goal

pub returns-then-not-is_kept : goal.returns-then-not-is_kept
returns-then-not-is_kept c =
    let kind = c.args.kind in
    let line = c.args.line.now in
    let a = rw c.in-Whole.is at c.requires in
    let n = length (spelled c.args.alone.now.fields.items) / 8 in
    let typed : is_kept kind line ≡ false = sym c.is_kept.ensures ∙ c.if-not-is_kept.true in
    let w = begins_whole kind _ line n (c.args.is_longer ≡ true) a refl in
    ((λ is. w.0 (λ k. absurd (both_ways (is_kept kind line) typed k))), (λ b. ap not c.if-not-is_kept.true))

pub returns-else-not-is_kept : goal.returns-else-not-is_kept
returns-else-not-is_kept c =
    let kind = c.args.kind in
    let a = rw c.in-Whole.is at c.requires in
    let small : length (spelled c.args.alone.now.fields.items) < 2 ^ 62 = omega (arith, (item_length kind a.0.0 _ a.0.1).1) in
    let w = begins_whole kind _ c.args.line.now c.bytes.result (c.args.is_longer ≡ true) a (c.bytes.ensures small) in
    ((λ is. w.0 (λ k. eqb-true c.bytes.result (length c.args.line.now) is)), (λ b. eq-eqb c.bytes.result (length c.args.line.now) (w.1 b (sym c.is_kept.ensures ∙ c.if-not-is_kept.false))))

pub returns-then-is_longer : goal.returns-then-is_longer
returns-then-is_longer c =
    let a = rw c.in-Open.is at c.requires in
    let w = begins_open c.args.kind _ c.args.line.now c.in-Open.field-0 (c.args.is_longer ≡ true) a in
    ((λ is. w.0 (c.if-is_longer.true, sym c.is_kept-then-is_longer.ensures ∙ not-true c.is_kept-then-is_longer.result is)), (λ b. ap not (c.is_kept-then-is_longer.ensures ∙ (w.1 b).1)))

pub returns-else-is_longer : goal.returns-else-is_longer
returns-else-is_longer c =
    let a = rw c.in-Open.is at c.requires in
    let w = begins_open c.args.kind _ c.args.line.now c.in-Open.field-0 (c.args.is_longer ≡ true) a in
    ((λ is. absurd (both_ways c.args.is_longer c.if-is_longer.false is)), (λ b. (w.1 b).0))

pub returns-in-Refused : goal.returns-in-Refused
returns-in-Refused c =
    let a = rw c.in-Refused.is at c.requires in
    ((λ is. absurd (false≢true is)), (λ b. absurd (begins_refused c.args.kind _ c.args.line.now c.in-Refused.field-0 c.in-Refused.field-1 (c.args.is_longer ≡ true) a b)))
