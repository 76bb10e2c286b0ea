use Rattle.std.proofs.Common.{◌-◌, arith}
use Rattle.etcs_sequence.specs.declared.stage.Stage.TheVariants.{Number}
use Rattle.etcs_sequence.proofs.LeftBodies.{reading_passed}
use Rattle.etcs_sequence.proofs.state.PacketsState.skip.Goals as goal

pub returns-in-Number-clause-moved : goal.returns-in-Number-clause-moved
returns-in-Number-clause-moved c p (beyond, long) =
    let s = c.args.self.now in
    let b = c.after_packet.ensures in
    rw c.requires.stage (reading_passed s.carrier s.room (s.room - c.args.bits) Number p beyond (omega (arith, long, c.requires.within)) (rw c.in-Number.is at b.same) (rw c.in-Number.is at b.ahead))

pub returns-in_default-clause-moved : goal.returns-in_default-clause-moved
returns-in_default-clause-moved c p (beyond, long) =
    let s = c.args.self.now in
    let b = c.after_packet in
    rw c.requires.stage (reading_passed s.carrier s.room (s.room - c.args.bits) b.result p beyond (omega (arith, long, c.requires.within)) b.ensures.same b.ensures.ahead)
