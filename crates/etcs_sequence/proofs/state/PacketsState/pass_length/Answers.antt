use Rattle.std.proofs.Common.{refl}
use Rattle.std.specs.Prelude.{IsTrue}
use Rattle.etcs_tables.specs.Rows.{row_to}
use Rattle.etcs_tables.specs.Frames.{is_framed, is_direction}
use Rattle.etcs_rows.specs.Frames.{way_of}
use Rattle.etcs_rows.proofs.FrameLemmas.{row_found, no_row}
use Rattle.etcs_rows.proofs.PlaceLemmas.{and_both}
use Rattle.etcs_sequence.specs.Lefts.{is_stage}
use Rattle.etcs_sequence.proofs.state.PacketsState.pass_length.Goals as goal

pub begin_row-requires-clause-row : goal.begin_row-requires-clause-row
begin_row-requires-clause-row c =
    let e = rw (c.way.ensures, c.in-Some.is) at c.row_of.ensures in
    row_found (row_to (way_of c.args.self.now.carrier) c.args.nid) c.in-Some.row.items.now e

pub begin_kept-requires-clause-kept : goal.begin_kept-requires-clause-kept
begin_kept-requires-clause-kept c =
    let s = c.args.self.now in
    let way = way_of s.carrier in
    let stands : IsTrue (is_stage s.carrier s.room s.stage) = s.stands in
    let framed = (and_both (is_framed way c.args.nid) (is_direction way c.args.dir) (rw c.requires.stage at stands)).0 in
    let none = no_row (row_to way c.args.nid) (rw (c.way.ensures, c.in-None.is) at c.row_of.ensures) in
    rw (framed, none) refl
