use Rattle.std.proofs.Common.{◌≡◌, [], ◌∷◌}
use Rattle.etcs_vars.specs.declared.var.Var.TheVariants.{NID_PACKET, L_PACKET}
use Rattle.etcs_tables.specs.Frames.{directed}
use Rattle.etcs_tables.specs.Layouts.{layout}
use Rattle.etcs_tables.specs.Rows.{row_to}
use Rattle.etcs_rows.specs.Places.{read_of}
use Rattle.etcs_rows.proofs.FrameLemmas.{row_found}
use Rattle.etcs_sequence.proofs.Sent.{framed_cut, two_sent_ok}
use Rattle.etcs_sequence.proofs.sending.send_row.Goals as goal

pub returns-in-Some-clause-ok : goal.returns-in-Some-clause-ok
returns-in-Some-clause-ok g c row typed =
    let a = c.args in
    let found = row_found (row_to a.way a.nid) c.in-Some.row.items.now (rw c.in-Some.is at c.row_of.ensures) in
    let same : layout c.in-Some.row.items.now ≡ row = (let both = found in cc) in
    let numbers = rw same at c.send_numbers.ensures.ok in
    let frame = rw c.from.ensures at c.in_ok-send_frame.ensures.ok in
    two_sent_ok g.S.VarSink.with g.met.S.VarSink.with_both c.send_numbers.result a.out.now c.send_frame.new.out c.send_numbers.new.out
    ((NID_PACKET, a.nid) ∷ directed a.way a.dir ((L_PACKET, a.length) ∷ [])) (read_of row a.numbers.now) ((NID_PACKET, a.nid) ∷ directed a.way a.dir ((L_PACKET, a.length) ∷ read_of row a.numbers.now))
    frame numbers (framed_cut a.way a.nid a.dir 0 a.length (read_of row a.numbers.now))
