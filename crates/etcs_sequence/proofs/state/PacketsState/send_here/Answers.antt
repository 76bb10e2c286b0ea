use Rattle.std.proofs.Common.{◌≡◌, length, ap, arith}
use Rattle.etcs_vars.specs.Reading.{Reading, spelled}
use Rattle.etcs_tables.specs.Layouts.{ReadsIn}
use Rattle.etcs_tables.specs.Rows.{row_to}
use Rattle.etcs_rows.specs.Frames.{way_of}
use Rattle.etcs_sequence.specs.Contents.{PacketsIn}
use Rattle.etcs_sequence.specs.Held.{here_of}
use Rattle.etcs_sequence.specs.Runs.{row_so_far}
use Rattle.etcs_sequence.proofs.Holding.{first_of, here_is}
use Rattle.etcs_sequence.proofs.Sent.{row_sent, row_short, taken_cut}
use Rattle.etcs_sequence.proofs.state.PacketsState.send_here.Goals as goal

pub unreachable-requires : goal.unreachable-requires
unreachable-requires g c =
    let s = c.args.self.now in
    let l = c.args.list.now in
    let taken = taken_cut g.P.AnyPacket.form s.carrier s.stage l.packets.items l.numbers.items l.bits c.args.taken c.requires.taken in
    let less = rw (c.as_slice.ensures.value, ← c.requires.way) at (rw c.in_default.is at c.room_after.ensures.none) in
    omega (arith, taken, less)

pub overflow_add-length : goal.overflow_add-length
overflow_add-length g c =
    let s = c.args.self.now in
    let l = c.args.list.now in
    let row = c.in-Row.row in
    let taken = taken_cut g.P.AnyPacket.form s.carrier s.stage l.packets.items l.numbers.items l.bits c.args.taken c.requires.taken in
    let left = rw (c.as_slice.ensures.value, ← c.requires.way) at (rw c.in-Some.is at c.room_after.ensures.left) in
    let (h, here) = c.requires.here in
    let at = rw c.in-Row.is at here in
    let goes = rw c.in-Row.is at c.requires.goes in
    let short = row_short (way_of s.carrier) c.in-Row.nid c.in-Row.dir row.len row.place l.numbers.items h (first_of (ReadsIn row.place row.len) (PacketsIn s.carrier s.room) goes) at.1 in
    let same = ap (λ (t : Reading). length (spelled t)) (here_is s.carrier s.room s.stage l.numbers.items l.bits h c.requires.goes here) in
    omega (arith, taken, left, short, same)

pub returns-in-Some-clause-ok : goal.returns-in-Some-clause-ok
returns-in-Some-clause-ok g c =
    let s = c.args.self.now in
    let l = c.args.list.now in
    let r = c.in-Row in
    let way = way_of s.carrier in
    let taken = taken_cut g.P.AnyPacket.form s.carrier s.stage l.packets.items l.numbers.items l.bits c.args.taken c.requires.taken in
    let left = rw (c.as_slice.ensures.value, ← c.requires.way) at (rw c.in-Some.is at c.room_after.ensures.left) in
    let (h, here) = c.requires.here in
    let at = rw r.is at here in
    let o = row_to way r.nid in
    let long : c.in-Some.here ≡ length (spelled (row_so_far way o r.nid r.dir l.numbers.items r.row.len)) = rw r.is at (let e : c.in-Some.here ≡ length (spelled (here_of s.carrier s.stage l.numbers.items l.bits)) = omega (arith, taken, left) in e) in
    let sent = rw (c.as_slice-in-Row.ensures.value, c.way-way.ensures) at c.send_row.ensures.ok at.1.row at.1.typed in
    rw r.is (rw (row_sent way r.nid r.dir r.row.len o at.1.row l.numbers.items c.in-Some.here at.1.typed long) at sent)
