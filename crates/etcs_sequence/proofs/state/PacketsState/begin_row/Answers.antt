use Rattle.std.proofs.Common.{◌≡◌, ◌-◌, ◌∷◌, ◌++◌, [], true, arith}
use Rattle.std.specs.Prelude.{IsTrue, is_some}
use Rattle.etcs_vars.specs.declared.var.Var.TheVariants.{L_PACKET}
use Rattle.etcs_tables.specs.Frames.{is_framed, is_direction}
use Rattle.etcs_rows.specs.Frames.{way_of}
use Rattle.etcs_tables.specs.Layouts.{layout}
use Rattle.etcs_rows.specs.Places.{first_variable}
use Rattle.etcs_rows.proofs.PlaceLemmas.{and_both}
use Rattle.etcs_sequence.proofs.BodyBegins.{row_lengths}
use Rattle.etcs_reader.proofs.Parts.{none_is}
use Rattle.etcs_sequence.specs.declared.stage.Stage.TheVariants.{Length}
use Rattle.etcs_sequence.specs.Lefts.{is_stage}
use Rattle.etcs_sequence.proofs.LeftBodies.{some_after, length_whole, row_begun, row_whole, here_begun, here_whole}
use Rattle.etcs_sequence.proofs.state.PacketsState.begin_row.Goals as goal

pub overflow_sub-length : goal.overflow_sub-length
overflow_sub-length c =
    let s = c.args.self.now in
    let w = length_whole s.carrier c.args.nid s.room c.args.length (rw c.requires.stage at c.requires.goes) in
    rw (c.frame_bits.ensures.bits, c.way.ensures) w.0

pub overflow_sub-self : goal.overflow_sub-self
overflow_sub-self c = let s = c.args.self.now in (length_whole s.carrier c.args.nid s.room c.args.length (rw c.requires.stage at c.requires.goes)).2

pub begin-left-requires : goal.begin-left-requires
begin-left-requires c =
    let s = c.args.self.now in
    let some = some_after s.carrier c.args.nid s.room c.args.length (rw c.requires.stage at c.requires.goes) in
    rw (c.frame_bits.ensures.bits, c.way.ensures) (row_lengths s.carrier c.args.nid s.room c.args.length (layout c.args.row.items.now) c.requires.row some)

pub returns-then-is_none : goal.returns-then-is_none
returns-then-is_none c =
    let s = c.args.self.now in
    let a = c.args in
    let b = c.after_packet-self in
    let v = c.begin-left.result in
    let goes = rw c.requires.stage at c.requires.goes in
    let w = rw (c.frame_bits.ensures.bits, c.way.ensures) at c.begin-left.ensures in
    let none = rw c.var.ensures at (none_is c.var.result c.if-is_none.ensures) in
    let stands : IsTrue (is_stage s.carrier s.room s.stage) = s.stands in
    let directed = (and_both (is_framed (way_of s.carrier) a.nid) (is_direction (way_of s.carrier) a.dir) (rw c.requires.stage at stands)).1 in
    let m = row_begun s.carrier a.nid a.dir s.room a.length (layout a.row.items.now) v goes c.requires.row w.0 w.1 in
    record {
      moved = rw c.requires.stage (row_whole s.carrier s.room (Length a.nid a.dir) ((L_PACKET, a.length) ∷ []) s.carrier (s.room - a.length) a.nid a.dir v b.result m none w.2 b.ensures.same b.ensures.ahead);
      here = λ f k h here.
          let i = rw c.requires.stage at here in
          let begun = here_begun s.carrier s.room a.nid a.dir a.length (layout a.row.items.now) v h goes c.requires.row w.0 w.1 i.2 in
          rw (c.requires.stage, i.0) (i.1, here_whole s.carrier a.nid a.dir v [] (h ++ (L_PACKET, a.length) ∷ []) directed none w.2 begun, b.ensures.here);
    }

pub invariant_of-self-2 : goal.invariant_of-self-2
invariant_of-self-2 c =
    let s = c.args.self.now in
    let stands : IsTrue (is_stage s.carrier s.room s.stage) = s.stands in
    let directed = (and_both (is_framed (way_of s.carrier) c.args.nid) (is_direction (way_of s.carrier) c.args.dir) (rw c.requires.stage at stands)).1 in
    let some : is_some (first_variable c.begin-left.result.place) ≡ true = rw c.var.ensures at c.if-is_none.ensures in
    record { small = omega (arith, s.small); stands = rw (c.requires.row, directed) some }

pub returns : goal.returns
returns c =
    let s = c.args.self.now in
    let a = c.args in
    let goes = rw c.requires.stage at c.requires.goes in
    let w = rw (c.frame_bits.ensures.bits, c.way.ensures) at c.begin-left.ensures in
    record {
      moved = rw c.requires.stage (row_begun s.carrier a.nid a.dir s.room a.length (layout a.row.items.now) c.begin-left.result goes c.requires.row w.0 w.1);
      here = λ f k h here.
          let i = rw c.requires.stage at here in
          rw (c.requires.stage, i.0) (i.1, here_begun s.carrier s.room a.nid a.dir a.length (layout a.row.items.now) c.begin-left.result h goes c.requires.row w.0 w.1 i.2);
    }
