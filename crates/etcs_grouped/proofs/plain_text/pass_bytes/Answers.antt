use Rattle.std.proofs.Common.{[], ◌∷◌}
use Rattle.etcs_vars.specs.declared.var.Var.TheVariants.{X_TEXT}
use Rattle.etcs_bodies.specs.Formats.{number, Is, reading}
use Rattle.etcs_bodies.specs.laws.Passing.{number_alone, stand_more}
use Rattle.etcs_grouped.proofs.plain_text.pass_bytes.Goals as goal

pub loop-preserved : goal.loop-preserved
loop-preserved g c =
    let l = c.loop in
    let left = g.L.NextNumber.left in
    let s = g.met.S.VarSink in
    let k = c.in-Some in
    stand_more g.S.VarSink.with s.with_both (Is (number X_TEXT)) (reading (number X_TEXT)) l.counter (left c.args.numbers.now) (left l.numbers) (left c.next.new.self) c.args.out.now l.out c.send.new.self l.invariant.0 l.invariant.1 l.invariant.2
    (k.byte, k.ensures.admitted, record { taken = number_alone X_TEXT k.byte (left l.numbers) (left c.next.new.self) k.ensures.next; sent = c.in_ok-send.ensures.ok })
