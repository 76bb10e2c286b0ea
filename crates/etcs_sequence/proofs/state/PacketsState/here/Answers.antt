use Rattle.std.proofs.Common.{◌≡◌}
use Rattle.etcs_vars.specs.declared.var.Var.TheVariants.{NID_PACKET, NID_VBCMK, Q_DIR, L_PACKET, OTHER_DATA}
use Rattle.etcs_vars.specs.Reading.{Then}
use Rattle.etcs_tables.specs.Layouts.{ReadsIn}
use Rattle.etcs_rows.specs.laws.RestLaws.{row_begins_with}
use Rattle.etcs_rows.proofs.ExactLemmas.{exact_as}
use Rattle.etcs_sequence.specs.Contents.{PacketsIn, KeptIn}
use Rattle.etcs_sequence.specs.laws.LeftLaws.{open_by, some_left}
use Rattle.etcs_sequence.proofs.ThenLaws.{then_goes, then_starts}
use Rattle.etcs_sequence.proofs.Exact.{number_exact, length_exact, marker_exact, direction_exact, kept_exact}
use Rattle.etcs_sequence.proofs.state.PacketsState.here.Goals as goal

pub returns-in-Number-clause-at : goal.returns-in-Number-clause-at
returns-in-Number-clause-at c x next = (let e = rw c.in-Number.is at next in let same : x ≡ NID_PACKET = cc in same)

pub returns-in-Number-clause-exactly : goal.returns-in-Number-clause-exactly
returns-in-Number-clause-exactly c x next goes =
    let s = c.args.self.now in
    let same : NID_PACKET ≡ x = (let e = rw c.in-Number.is at next in cc) in
    let stands = open_by s.carrier s.room (rw c.in-Number.is at s.stands) in
    rw (c.in-Number.is, ← same) (number_exact s.carrier s.room stands s.small)

pub returns-in-Length-clause-at : goal.returns-in-Length-clause-at
returns-in-Length-clause-at c x next = (let e = rw c.in-Length.is at next in let same : x ≡ L_PACKET = cc in same)

pub returns-in-Length-clause-exactly : goal.returns-in-Length-clause-exactly
returns-in-Length-clause-exactly c x next goes =
    let s = c.args.self.now in
    let same : L_PACKET ≡ x = (let e = rw c.in-Length.is at next in cc) in
    rw (c.in-Length.is, ← same) (length_exact s.carrier c.in-Length.nid s.room s.small)

pub returns-in-Row-clause-at : goal.returns-in-Row-clause-at
returns-in-Row-clause-at c x next = rw c.here.ensures.value tt

pub returns-in-Row-clause-exactly : goal.returns-in-Row-clause-exactly
returns-in-Row-clause-exactly c x next goes =
    let s = c.args.self.now in
    let row = c.in-Row.row in
    let reads = ReadsIn row.place row.len in
    let first = rw c.in-Row.is at next in
    let beyond = (then_goes reads (PacketsIn s.carrier s.room) (rw c.in-Row.is at goes)).1 in
    rw c.in-Row.is (exact_as reads (Then reads (PacketsIn s.carrier s.room)) x c.here.result (then_starts reads (PacketsIn s.carrier s.room) x (row_begins_with row.place row.len x first) beyond 0) (c.here.ensures.exactly x first))

pub returns-in-Marker-clause-exactly : goal.returns-in-Marker-clause-exactly
returns-in-Marker-clause-exactly c x next goes =
    let s = c.args.self.now in
    let same : NID_VBCMK ≡ x = (let e = rw c.in-Marker.is at next in cc) in
    let g = rw c.in-Marker.is at goes in
    rw (c.in-Marker.is, ← same) (marker_exact s.room g)

pub returns-in-Direction-clause-exactly : goal.returns-in-Direction-clause-exactly
returns-in-Direction-clause-exactly c x next goes =
    let s = c.args.self.now in
    let same : Q_DIR ≡ x = (let e = rw c.in-Direction.is at next in cc) in
    let g = rw c.in-Direction.is at goes in
    rw (c.in-Direction.is, ← same) (direction_exact s.carrier c.in-Direction.field-0 s.room g)

pub returns-in-Kept-clause-exactly : goal.returns-in-Kept-clause-exactly
returns-in-Kept-clause-exactly c x next goes =
    let s = c.args.self.now in
    let left = c.in-Kept.field-2 in
    let same : OTHER_DATA ≡ x = (let e = rw c.in-Kept.is at next in cc) in
    let some = some_left s.carrier s.room c.in-Kept.field-0 c.in-Kept.field-1 left (rw c.in-Kept.is at s.stands) in
    let beyond = (then_goes (KeptIn left) (PacketsIn s.carrier s.room) (rw c.in-Kept.is at goes)).1 in
    rw (c.in-Kept.is, ← same) (kept_exact s.carrier s.room c.in-Kept.field-0 c.in-Kept.field-1 left some beyond)

pub returns-in-Closed-clause-exactly : goal.returns-in-Closed-clause-exactly
returns-in-Closed-clause-exactly c x next goes = absurd (let e = rw c.in-Closed.is at next in cc)
