use Rattle.etcs_sequence.proofs.Framing.{marker_moved, marker_room}
use Rattle.etcs_sequence.proofs.state.PacketsState.pass_marker.Goals as goal

pub overflow_sub-self : goal.overflow_sub-self
overflow_sub-self c = marker_room c.args.self.now.room c.args.number (rw c.requires.stage at c.requires.goes)

pub returns-clause-moved : goal.returns-clause-moved
returns-clause-moved c =
    let s = c.args.self.now in
    let e = c.after_packet-self.ensures in
    rw c.requires.stage (marker_moved s.carrier s.room c.args.number c.after_packet-self.result (rw c.requires.stage at s.stands) (rw c.requires.stage at c.requires.goes) e.same e.ahead)
