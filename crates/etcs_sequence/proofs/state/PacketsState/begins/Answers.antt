use Rattle.std.proofs.Common.{refl, ◌≡◌, arith}
use Rattle.etcs_vars.specs.declared.var.Var.TheVariants.{NID_PACKET, Q_DIR, L_PACKET, NID_VBCMK}
use Rattle.etcs_tables.specs.Layouts.{ReadsIn}
use Rattle.etcs_sequence.specs.Contents.{PacketsIn, KeptIn, DirectionLeft, LengthLeft, AfterNumber, AfterDirection, AfterLength, MarkerLeft, AfterMarker}
use Rattle.etcs_sequence.specs.laws.RunSteps.{number_step, direction_step, length_step, marker_step}
use Rattle.etcs_rows.specs.laws.RestLaws.{row_begins_with}
use Rattle.etcs_sequence.specs.laws.LeftLaws.{open_by, some_left}
use Rattle.etcs_sequence.specs.laws.OpenLaws.{opens_goes, opens_tested}
use Rattle.etcs_sequence.proofs.KeptLaws.{kept_starts}
use Rattle.etcs_sequence.proofs.ThenLaws.{then_goes, then_starts}
use Rattle.etcs_sequence.proofs.Starting.{starts_number, starts_marker, starts_direction, starts_length}
use Rattle.etcs_sequence.proofs.state.PacketsState.begins.Goals as goal

pub returns-in-Number : goal.returns-in-Number
returns-in-Number c =
    let s = c.args.self.now in
    let a = c.args in
    let step = number_step s.carrier s.room (open_by s.carrier s.room (rw c.in-Number.is at s.stands)) in
    let next = rw c.in-Number.is at c.requires.next in
    let iff = starts_number s.carrier s.room a.rest a.number c.number_fits.result s.small c.number_fits.ensures in
    rw c.in-Number.is (opens_tested (PacketsIn s.carrier s.room) NID_PACKET (AfterNumber s.carrier s.room) step a.var a.rest a.number c.number_fits.result next iff)

pub returns-in-Marker : goal.returns-in-Marker
returns-in-Marker c =
    let s = c.args.self.now in
    let a = c.args in
    let step = marker_step s.room in
    let next = rw c.in-Marker.is at c.requires.next in
    let same : a.var ≡ NID_VBCMK = cc in
    let le = rw same at c.requires.rest in
    let fits = rw same at c.requires.fits in
    let on = opens_goes (MarkerLeft s.room) NID_VBCMK (AfterMarker s.room) step (rw c.in-Marker.is at c.requires.goes) in
    let iff = starts_marker s.carrier s.room a.rest a.number c.begins.result (omega (arith, le)) fits on (rw c.ranges-in-Marker.ensures at c.begins.ensures) in
    rw c.in-Marker.is (opens_tested (MarkerLeft s.room) NID_VBCMK (AfterMarker s.room) step a.var a.rest a.number c.begins.result next iff)

pub returns-in-Direction : goal.returns-in-Direction
returns-in-Direction c =
    let s = c.args.self.now in
    let a = c.args in
    let nid = c.in-Direction.field-0 in
    let step = direction_step s.carrier nid s.room in
    let next = rw c.in-Direction.is at c.requires.next in
    let same : a.var ≡ Q_DIR = cc in
    let le = rw same at c.requires.rest in
    let fits = rw same at c.requires.fits in
    let on = opens_goes (DirectionLeft s.carrier nid s.room) Q_DIR (AfterDirection s.carrier nid s.room) step (rw c.in-Direction.is at c.requires.goes) in
    let iff = starts_direction s.carrier nid s.room a.rest a.number c.begins-in-Direction.result (omega (arith, le)) fits on (rw c.ranges-in-Direction.ensures at c.begins-in-Direction.ensures) in
    rw c.in-Direction.is (opens_tested (DirectionLeft s.carrier nid s.room) Q_DIR (AfterDirection s.carrier nid s.room) step a.var a.rest a.number c.begins-in-Direction.result next iff)

pub returns-in-Length : goal.returns-in-Length
returns-in-Length c =
    let s = c.args.self.now in
    let a = c.args in
    let nid = c.in-Length.nid in
    let step = length_step s.carrier nid s.room in
    let next = rw c.in-Length.is at c.requires.next in
    let iff = starts_length s.carrier nid s.room a.rest a.number c.length_fits.result s.small c.length_fits.ensures in
    rw c.in-Length.is (opens_tested (LengthLeft s.carrier nid s.room) L_PACKET (AfterLength s.carrier nid s.room) step a.var a.rest a.number c.length_fits.result next iff)

pub returns-in-Row : goal.returns-in-Row
returns-in-Row c =
    let s = c.args.self.now in
    let row = c.in-Row.row in
    let reads = ReadsIn row.place row.len in
    let next = rw c.in-Row.is at c.requires.next in
    let beyond = (then_goes reads (PacketsIn s.carrier s.room) (rw c.in-Row.is at c.requires.goes)).1 in
    let both = then_starts reads (PacketsIn s.carrier s.room) c.args.var (row_begins_with row.place row.len c.args.var next) beyond c.args.rest c.args.number in
    rw c.in-Row.is (λ t. both.0 (c.begins-in-Row.ensures.0 t), λ h. c.begins-in-Row.ensures.1 (both.1 h))

pub returns-in-Kept : goal.returns-in-Kept
returns-in-Kept c =
    let s = c.args.self.now in
    let left = c.in-Kept.field-2 in
    let some = some_left s.carrier s.room c.in-Kept.field-0 c.in-Kept.field-1 left (rw c.in-Kept.is at s.stands) in
    let beyond = (then_goes (KeptIn left) (PacketsIn s.carrier s.room) (rw c.in-Kept.is at c.requires.goes)).1 in
    let next = rw c.in-Kept.is at c.requires.next in
    rw c.in-Kept.is (λ t. kept_starts left (PacketsIn s.carrier s.room) c.args.var c.args.rest c.args.number next some beyond c.requires.rest c.requires.fits, λ h. refl)
