use Rattle.std.proofs.Common.{length, refl, ap, ◌∙◌, arith}
use Rattle.etcs_messages.proofs.FrontsAtOnce.{no_items, items_more, items_long, items_all}
use Rattle.etcs_messages.proofs.whole.take_items.Goals as goal

pub loop-item-init : goal.loop-item-init
loop-item-init c =
    let w = c.args.walker.now in
    record { taken = no_items c.args.items.now w.bits w.place c.args.numbers.now.items c.requires.place; bits = refl }

pub take_number-requires-clause-room : goal.take_number-requires-clause-room
take_number-requires-clause-room c =
    let w = c.args.walker.now in
    let l = c.loop-item in
    let long = items_long c.args.items.now l.item-index w.bits w.place c.args.numbers.now.items l.numbers.items l.walker.place (omega (arith, c.loop-item-test.true)) l.invariant.taken in
    omega (arith, long, c.loop-item-test.true, c.requires.room)

pub take_number-requires-clause-place : goal.take_number-requires-clause-place
take_number-requires-clause-place c =
    let l = c.loop-item in
    omega (arith, l.invariant.taken.taken.front.inside, ap length l.invariant.bits)

pub loop-item-preserved : goal.loop-item-preserved
loop-item-preserved c =
    let w = c.args.walker.now in
    let l = c.loop-item in
    let (n, now_is, front) = c.in_ok-take_number-in-One.ensures.front in
    let next = c.take_number.new in
    record {
      taken = items_more c.args.items.now l.item-index _ c.in-One.var w.bits w.place c.args.numbers.now.items l.numbers.items next.numbers.items l.walker.place next.walker.place n c.loop-item-test.true c.in-One.is l.invariant.taken now_is (rw l.invariant.bits at front);
      bits = c.take_number.ensures.bits ∙ l.invariant.bits;
    }

pub returns-clause-front : goal.returns-clause-front
returns-clause-front c = λ vars e.
    (let w = c.args.walker.now in
    let l = c.loop-item in
    items_all c.args.items.now l.item-index w.bits w.place c.args.numbers.now.items l.numbers.items l.walker.place vars c.loop-item-test.false l.invariant.taken e)
