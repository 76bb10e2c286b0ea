use Rattle.std.proofs.Common.{◌++◌, ◌&&◌, sym}
use Rattle.std.specs.Prelude.{IsTrue, is_some}
use Rattle.etcs_tables.specs.Frames.{is_direction}
use Rattle.etcs_tables.specs.Rows.{row_to}
use Rattle.etcs_vars.specs.Reading.{numbers}
use Rattle.etcs_rows.specs.Frames.{way_of}
use Rattle.etcs_rows.specs.Places.{first_variable}
use Rattle.etcs_rows.proofs.PlaceLemmas.{and_both}
use Rattle.etcs_reader.proofs.Parts.{none_is}
use Rattle.etcs_sequence.specs.declared.stage.Stage.TheVariants.{Row}
use Rattle.etcs_sequence.specs.Lefts.{is_stage}
use Rattle.etcs_sequence.proofs.LeftBodies.{row_run, row_whole, here_more, here_whole}
use Rattle.etcs_sequence.proofs.state.PacketsState.pass_to.Goals as goal

pub returns-then-is_some-clause-moved : goal.returns-then-is_some-clause-moved
returns-then-is_some-clause-moved c row p is to =
    let s = c.args.self.now in
    rw is (row_run s.carrier s.room c.args.nid c.args.dir row c.args.left p to.read)

pub returns-then-is_some-clause-here : goal.returns-then-is_some-clause-here
returns-then-is_some-clause-here c row p is to f k h here =
    let s = c.args.self.now in
    let left = c.args.left in
    let i = rw is at here in
    (i.0, here_more (way_of s.carrier) c.args.nid c.args.dir row.place row.len left.place left.len f h p i.1 to.residual)

pub returns-clause-moved : goal.returns-clause-moved
returns-clause-moved c row p is to =
    let s = c.args.self.now in
    let left = c.args.left in
    let b = c.after_packet-self in
    let none = rw c.var.ensures at (none_is c.var.result (sym c.if-is_some.ensures)) in
    let m = row_run s.carrier s.room c.args.nid c.args.dir row left p to.read in
    rw is (row_whole s.carrier s.room (Row c.args.nid c.args.dir row) p s.carrier s.room c.args.nid c.args.dir left b.result m none c.requires.goes b.ensures.same b.ensures.ahead)

pub returns-clause-here : goal.returns-clause-here
returns-clause-here c row p is to f k h here =
    let s = c.args.self.now in
    let left = c.args.left in
    let way = way_of s.carrier in
    let i = rw is at here in
    let stands : IsTrue (is_stage s.carrier s.room s.stage) = s.stands in
    let last = and_both (is_some (row_to way c.args.nid)) (is_direction way c.args.dir && is_some (first_variable row.place)) (rw is at stands) in
    let directed = (and_both (is_direction way c.args.dir) (is_some (first_variable row.place)) last.1).0 in
    let none = rw c.var.ensures at (none_is c.var.result (sym c.if-is_some.ensures)) in
    let more = here_more way c.args.nid c.args.dir row.place row.len left.place left.len f h p i.1 to.residual in
    (i.0, here_whole s.carrier c.args.nid c.args.dir left (f ++ numbers p) (h ++ p) directed none c.requires.goes more, c.after_packet-self.ensures.here)
