use Rattle.std.proofs.Common.{rules, arith}
use Rattle.etcs_bodies.proofs.Repeats.{loop_none, loop_more, loop_end}
use Rattle.etcs_bodies.proofs.part.take_all.Goals as goal

pub returns-in-None-clause-none : goal.returns-in-None-clause-none
returns-in-None-clause-none g c =
    let l = c.loop in
    let left = g.L.NextNumber.left in
    loop_none g.P.Part.read_from c.args.count l.counter l.parts.items (left c.args.numbers.now) (left l.numbers) c.loop-test.true l.invariant.0 (rw c.in-None.is at c.in_ok-part.ensures.none)

pub loop-preserved : goal.loop-preserved
loop-preserved g c =
    let l = c.loop in
    let left = g.L.NextNumber.left in
    let more = loop_more g.P.Part.read_from c.args.count l.counter l.parts.items c.in-Some.part (left c.args.numbers.now) (left l.numbers) (left c.take.new.numbers) c.loop-test.true l.invariant.0 (rw c.in-Some.is at c.in_ok-part.ensures.from) in
    ((rw c.in_ok-push-in-Some.ensures.items more), search rules, search rules)

pub returns-clause-from : goal.returns-clause-from
returns-clause-from g c =
    let l = c.loop in
    let left = g.L.NextNumber.left in
    loop_end g.P.Part.read_from c.args.count l.counter l.parts.items (left c.args.numbers.now) (left l.numbers) (omega arith) l.invariant.0
