use Rattle.std.proofs.Common.{◌+◌, ◌<◌, ◌≤◌, arith, length, rules}
use Rattle.std.proofs.lemmas.List.{drop_more, drop_all}
use Rattle.etcs_vars.specs.Vars.{width}
use Rattle.etcs_rows.proofs.WriteLemmas.{puts_begin, puts_below, puts_length, puts_step, puts_done, writes_fits, writes_ended}
use Rattle.etcs_rows.proofs.write.put_row.Goals as goal
use Rattle.etcs_rows.proofs.write.put_row.Goals.{in-Some, in_default}

pub loop-number-init : goal.loop-number-init
loop-number-init c = rw c.start-place.ensures.left (puts_begin c.requires.admitted (rw c.start-place.ensures.left at c.start-place.ensures.looks))

pub write-requires-clause-inside : goal.write-requires-clause-inside
write-requires-clause-inside c =
    let next = drop_more c.args.fields.now c.loop-number.number-index 0 (omega arith) in
    rw (c.width.ensures, puts_length c.loop-number.invariant c.requires.inside) (puts_below c.loop-number.invariant next c.in-Some.ensures c.requires.inside)

pub write-requires-clause-fits : goal.write-requires-clause-fits
write-requires-clause-fits c =
    rw c.width.ensures (writes_fits c.loop-number.invariant.writes (drop_more c.args.fields.now c.loop-number.number-index 0 (omega arith)) c.in-Some.ensures).0

pub overflow_add-at : goal.overflow_add-at
overflow_add-at c =
    let next = drop_more c.args.fields.now c.loop-number.number-index 0 (omega arith) in
    let below : c.loop-number.at + width c.in-Some.var ≤ 18446744073709551615 = puts_below c.loop-number.invariant next c.in-Some.ensures (λ b spells. (let fits : c.args.start + length b ≤ 18446744073709551615 = omega (arith, c.requires.small b spells) in fits)) in
    let fits : c.loop-number.at + width c.in-Some.var < 18446744073709551616 = omega arith in
    rw c.width-at.ensures (search (rules, fits))

pub loop-number-preserved : goal.loop-number-preserved
loop-number-preserved c =
    let next = drop_more c.args.fields.now c.loop-number.number-index 0 (omega arith) in
    elim c.match-var.branch [
      | in-Some b ↦ rw (b.at-is, b.place-is, b.width-at.ensures) (puts_step c.loop-number.invariant next b.in-Some.ensures b.pass.ensures.left c.requires.inside (rw b.bytes-is (rw b.width.ensures at b.write.ensures)))
      | in_default b ↦ absurd (writes_ended c.loop-number.invariant.writes next b.in_default.ensures)
    ]

pub returns : goal.returns
returns c = puts_done c.loop-number.invariant (drop_all c.loop-number.number-index c.args.fields.now (omega arith))
