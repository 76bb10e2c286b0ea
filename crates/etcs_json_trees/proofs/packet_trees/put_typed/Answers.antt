use Rattle.std.proofs.Common.{◌++◌, Bool, List, sym, ap, ◌∙◌, refl, arith, rules}
use Rattle.std.specs.Prelude.{IsTrue}
use Rattle.std.proofs.lemmas.Grind.{common_steps}
use Rattle.serde_json.specs.View.{view}
use Rattle.etcs_vars.specs.Reading.{spelled}
use Rattle.etcs_tables.specs.Frames.{is_direction}
use Rattle.etcs_tables.specs.Layouts.{layout}
use Rattle.etcs_tables.specs.Rows.{row_to}
use Rattle.etcs_rows.proofs.FrameLemmas.{row_found}
use Rattle.etcs_json_trees.proofs.PacketTrees.{row_refused, row_too_long}
use Rattle.etcs_json_trees.proofs.WrittenPackets.{body_long, frame_put}
use Rattle.etcs_json_trees.proofs.packet_trees.put_typed.Goals as goal

pub returns-in_err-put_row_tree-clause-invalid : goal.returns-in_err-put_row_tree-clause-invalid
returns-in_err-put_row_tree-clause-invalid c = λ refused r framed list room.
    (let way = c.args.way in
    let items = c.in-Some.row.items.now in
    let found = row_found (row_to way c.args.nid) items c.in-Some.ensures in
    let sent = frame_put way way c.args.nid c.from.result c.args.dir 0 c.args.out.now c.send_frame.new.out refl c.from.ensures c.in_ok-send_frame.ensures.ok in
    row_refused way c.args.nid c.args.dir (layout items) r (view c.args.fields.now) c.args.out.now c.send_frame.new.out found sent (c.in_err-put_row_tree.ensures.invalid (first_of (search rules, grind (arith, common_steps)))) framed list room)

pub put_packet_len-requires : goal.put_packet_len-requires
put_packet_len-requires c =
    let way = c.args.way in
    let (r, reads, list, passed) = c.in_ok-put_row_tree.ensures.ok in
    let sent = frame_put way way c.args.nid c.from.result c.args.dir 0 c.args.out.now c.send_frame.new.out refl c.from.ensures c.in_ok-send_frame.ensures.ok in
    omega (arith, body_long way c.args.nid c.args.dir r c.args.out.now c.send_frame.new.out c.put_row_tree.new.out sent passed, c.len-start.ensures)

pub returns-in-None-clause-invalid : goal.returns-in-None-clause-invalid
returns-in-None-clause-invalid c = λ refused q framed list' room.
    (let way = c.args.way in
    let items = c.in-Some.row.items.now in
    let found = row_found (row_to way c.args.nid) items c.in-Some.ensures in
    let (r, reads, list, passed) = c.in_ok-put_row_tree.ensures.ok in
    let sent = frame_put way way c.args.nid c.from.result c.args.dir 0 c.args.out.now c.send_frame.new.out refl c.from.ensures c.in_ok-send_frame.ensures.ok in
    let far = c.in-None.ensures.none refl c.args.nid c.args.dir r c.args.out.now c.len-start.ensures (passed ∙ ap (λ (b : List Bool). b ++ spelled r) sent) in
    row_too_long way c.args.nid c.args.dir (layout items) q r (view c.args.fields.now) found reads list far framed list')

pub returns-in-Some-put_packet_len-clause-ok : goal.returns-in-Some-put_packet_len-clause-ok
returns-in-Some-put_packet_len-clause-ok c =
    let way = c.args.way in
    let items = c.in-Some.row.items.now in
    let found = row_found (row_to way c.args.nid) items c.in-Some.ensures in
    let (r, reads, list, passed) = c.in_ok-put_row_tree.ensures.ok in
    let sent = frame_put way way c.args.nid c.from.result c.args.dir 0 c.args.out.now c.send_frame.new.out refl c.from.ensures c.in_ok-send_frame.ensures.ok in
    let directed : IsTrue (is_direction way c.args.dir) = sym c.is_direction.ensures ∙ c.if-not-is_direction.false in
    let (short, put) = c.in-Some-put_packet_len.ensures.some c.args.nid c.args.dir r c.args.out.now c.len-start.ensures (passed ∙ ap (λ (b : List Bool). b ++ spelled r) sent) in
    (r, (layout items, found, directed, reads, short), list, put)
