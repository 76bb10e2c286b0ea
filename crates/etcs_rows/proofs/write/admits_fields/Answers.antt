use Rattle.std.proofs.Common.{◌≡◌, ◌+◌, ◌≤◌, get_or, false, sym, ap, ◌∙◌, arith}
use Rattle.std.specs.Option.{is_some}
use Rattle.std.proofs.lemmas.List.{drop_more, drop_all}
use Rattle.etcs_vars.specs.Vars.{width, admits}
use Rattle.etcs_tables.specs.Layouts.{ROW_LIMIT}
use Rattle.etcs_rows.proofs.WriteLemmas.{admits_ended, admits_next, admits_step, admits_done, refused}
use Rattle.etcs_rows.proofs.write.admits_fields.Goals as goal
use Rattle.etcs_rows.proofs.write.admits_fields.Goals.{then-taken-gt-ROW_LIMIT-via-then-taken-gt-ROW_LIMIT, then-taken-gt-ROW_LIMIT-via-else-taken-gt-ROW_LIMIT+then-not-admits}

pub returns-in_default : goal.returns-in_default
returns-in_default c = refused (admits_ended c.loop-number.invariant (drop_more c.args.fields.now c.loop-number.number-index 0 (omega arith)) c.in_default.ensures)

pub returns-then-taken-gt-ROW_LIMIT : goal.returns-then-taken-gt-ROW_LIMIT
returns-then-taken-gt-ROW_LIMIT c =
    let fields = c.args.fields.now in let i = c.loop-number.number-index in
    refused (λ a.
    let next = admits_next c.loop-number.invariant (drop_more fields i 0 (omega arith)) c.in-Some.ensures a in
    elim c.then-taken-gt-ROW_LIMIT.branch [
      | then-taken-gt-ROW_LIMIT-via-then-taken-gt-ROW_LIMIT w ↦ (let over = w.if-taken-gt-ROW_LIMIT.true in omega (arith, next.1, over, c.width-taken.ensures))
      | then-taken-gt-ROW_LIMIT-via-else-taken-gt-ROW_LIMIT+then-not-admits w ↦ (let spare : false ≡ admits c.in-Some.var (get_or fields i 0) = w.if-not-admits.ensures in let ok = next.0 in absurd cc)
    ])

pub loop-number-preserved : goal.loop-number-preserved
loop-number-preserved c =
    let fields = c.args.fields.now in let i = c.loop-number.number-index in
    let small : c.loop-number.taken + width c.in-Some.var ≤ ROW_LIMIT = omega (arith, c.if-taken-gt-ROW_LIMIT.false, c.width-taken.ensures) in
    rw c.width-taken.ensures (admits_step c.loop-number.invariant (drop_more fields i 0 (omega arith)) c.in-Some.ensures (sym c.if-not-admits.ensures) small c.pass.ensures.left)

pub returns : goal.returns
returns c = admits_done c.loop-number.invariant (drop_all c.loop-number.number-index c.args.fields.now (omega arith)) (ap is_some (sym c.var-2.ensures) ∙ c.is_none.ensures)
