use Rattle.std.proofs.Common.{rules, arith}
use Rattle.etcs_vars.specs.declared.var.Var.TheVariants.{X_TEXT}
use Rattle.etcs_bodies.specs.Taking.{next_number}
use Rattle.etcs_bodies.proofs.Repeats.{loop_none, loop_more, loop_end}
use Rattle.etcs_grouped.proofs.plain_text.take_bytes.Goals as goal

pub returns-in-None-clause-none : goal.returns-in-None-clause-none
returns-in-None-clause-none g c =
    let l = c.loop in
    let left = g.L.NextNumber.left in
    loop_none (next_number X_TEXT) c.args.count l.counter l.bytes.items (left c.args.numbers.now) (left l.numbers) c.loop-test.true l.invariant.0 (rw c.in-None.is at c.next.ensures.none)

pub loop-preserved : goal.loop-preserved
loop-preserved g c =
    let l = c.loop in
    let left = g.L.NextNumber.left in
    let more = loop_more (next_number X_TEXT) c.args.count l.counter l.bytes.items c.in-Some.byte (left c.args.numbers.now) (left l.numbers) (left c.next.new.self) c.loop-test.true l.invariant.0 (rw c.in-Some.is at c.next.ensures.next) in
    ((rw c.in_ok-push-in-Some.ensures.items more), search rules, search rules)

pub returns-clause-from : goal.returns-clause-from
returns-clause-from g c =
    let l = c.loop in
    let left = g.L.NextNumber.left in
    loop_end (next_number X_TEXT) c.args.count l.counter l.bytes.items (left c.args.numbers.now) (left l.numbers) (omega arith) l.invariant.0
