use Rattle.std.proofs.Common.{◌≡◌, ◌∷◌, ◌++◌, ◌&&◌, [], sym, ◌∙◌}
use Rattle.std.specs.Prelude.{IsTrue, is_some}
use Rattle.etcs_tables.specs.Frames.{is_direction}
use Rattle.etcs_rows.specs.Frames.{way_of}
use Rattle.etcs_rows.specs.Places.{first_variable}
use Rattle.etcs_tables.specs.Rows.{row_to}
use Rattle.etcs_rows.proofs.PlaceLemmas.{and_both}
use Rattle.etcs_reader.proofs.Parts.{none_is}
use Rattle.etcs_sequence.specs.declared.stage.Stage.{Stage}
use Rattle.etcs_sequence.specs.declared.stage.Stage.TheVariants.{Row}
use Rattle.etcs_sequence.specs.Lefts.{is_stage}
use Rattle.etcs_sequence.proofs.LeftBodies.{row_starts, row_goes, row_passed, row_whole, here_more, here_whole}
use Rattle.etcs_sequence.proofs.state.PacketsState.pass_row.Goals as goal

pub continue_with-requires-clause-goes : goal.continue_with-requires-clause-goes
continue_with-requires-clause-goes c =
    let s = c.args.self.now in
    row_starts s.carrier s.room c.in-Row.row c.args.var c.args.number (rw c.in-Row.is at c.requires.next) (rw c.in-Row.is at c.requires.goes)

pub returns-then-is_some-clause-moved : goal.returns-then-is_some-clause-moved
returns-then-is_some-clause-moved c =
    let s = c.args.self.now in
    let r = c.in-Row in
    let e = c.continue_with.ensures in
    rw r.is (row_passed s.carrier s.room r.field-0 r.field-1 r.row c.continue_with.new.self c.args.var c.args.number (rw r.is at c.requires.next) e.len e.after)

pub returns-then-is_some-clause-here : goal.returns-then-is_some-clause-here
returns-then-is_some-clause-here c f k h here =
    let s = c.args.self.now in
    let r = c.in-Row in
    let new = c.continue_with.new.self in
    let i = rw r.is at here in
    rw r.is (i.0, here_more (way_of s.carrier) r.field-0 r.field-1 r.row.place r.row.len new.place new.len f h ((c.args.var, c.args.number) ∷ []) i.1 c.continue_with.ensures.left)

pub returns-clause-moved : goal.returns-clause-moved
returns-clause-moved c =
    let s = c.args.self.now in
    let r = c.in-Row in
    let new = c.continue_with.new.self in
    let b = c.after_packet-self in
    let e = c.continue_with.ensures in
    let next = rw r.is at c.requires.next in
    let goes = row_goes s.carrier s.room r.row new c.args.var c.args.number next (rw r.is at c.requires.goes) e.left in
    let none = rw c.var.ensures at (none_is c.var.result (sym c.if-is_some.ensures)) in
    let m = row_passed s.carrier s.room r.field-0 r.field-1 r.row new c.args.var c.args.number next e.len e.after in
    rw r.is (row_whole s.carrier s.room (Row r.field-0 r.field-1 r.row) ((c.args.var, c.args.number) ∷ []) s.carrier s.room r.field-0 r.field-1 new b.result m none goes b.ensures.same b.ensures.ahead)

pub returns-clause-here : goal.returns-clause-here
returns-clause-here c f k h here =
    let s = c.args.self.now in
    let r = c.in-Row in
    let new = c.continue_with.new.self in
    let d = c.continue_with.ensures.left in
    let i = rw r.is at here in
    let (row, at) = c.requires.row in
    let two : ◌≡◌ {A = Stage} (Row r.field-0 r.field-1 r.row) (Row c.args.nid c.args.dir row) = sym r.is ∙ at in
    let number : r.field-0 ≡ c.args.nid = cc in
    let direction : r.field-1 ≡ c.args.dir = cc in
    let stands : IsTrue (is_stage s.carrier s.room s.stage) = s.stands in
    let last = and_both (is_some (row_to (way_of s.carrier) r.field-0)) (is_direction (way_of s.carrier) r.field-1 && is_some (first_variable r.row.place)) (rw r.is at stands) in
    let directed = (and_both (is_direction (way_of s.carrier) r.field-1) (is_some (first_variable r.row.place)) last.1).0 in
    let goes = row_goes s.carrier s.room r.row new c.args.var c.args.number (rw r.is at c.requires.next) (rw r.is at c.requires.goes) d in
    let none = rw c.var.ensures at (none_is c.var.result (sym c.if-is_some.ensures)) in
    let more = here_more (way_of s.carrier) r.field-0 r.field-1 r.row.place r.row.len new.place new.len f h ((c.args.var, c.args.number) ∷ []) i.1 d in
    rw (r.is, ← number, ← direction) (i.0, here_whole s.carrier r.field-0 r.field-1 new (f ++ c.args.number ∷ []) (h ++ (c.args.var, c.args.number) ∷ []) directed none goes more, c.after_packet-self.ensures.here)
