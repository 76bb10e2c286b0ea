use Rattle.std.proofs.Common.{refl, arith}
use Rattle.std.specs.Prelude.{IsTrue}
use Rattle.etcs_tables.specs.Frames.{is_framed}
use Rattle.etcs_rows.specs.Frames.{way_of}
use Rattle.etcs_sequence.specs.Lefts.{is_stage}
use Rattle.etcs_sequence.proofs.Framing.{direction_moved, direction_sent, direction_here}
use Rattle.etcs_sequence.specs.laws.Framed.{sent_direction, sent_small}
use Rattle.etcs_sequence.proofs.state.PacketsState.pass_direction.Goals as goal

pub overflow_cast-self : goal.overflow_cast-self
overflow_cast-self c =
    let s = c.args.self.now in
    omega (arith, sent_small (way_of s.carrier) c.args.number (direction_sent s.carrier c.args.nid s.room c.args.number (rw c.requires.stage at c.requires.goes)))

pub invariant_of-self : goal.invariant_of-self
invariant_of-self c =
    let s = c.args.self.now in
    let stands : IsTrue (is_stage s.carrier s.room s.stage) = s.stands in
    let framed : IsTrue (is_framed (way_of s.carrier) c.args.nid) = rw c.requires.stage at stands in
    let direction = sent_direction (way_of s.carrier) c.args.number (direction_sent s.carrier c.args.nid s.room c.args.number (rw c.requires.stage at c.requires.goes)) in
    record { small = s.small; stands = rw (framed, direction) refl }

pub returns-clause-moved : goal.returns-clause-moved
returns-clause-moved c =
    let s = c.args.self.now in
    rw c.requires.stage (direction_moved s.carrier c.args.nid s.room c.args.number (rw c.requires.stage at c.requires.goes))

pub returns-clause-here : goal.returns-clause-here
returns-clause-here c =
    let s = c.args.self.now in
    rw c.requires.stage (direction_here s.carrier c.args.nid s.room c.args.number (rw c.requires.stage at c.requires.goes))
