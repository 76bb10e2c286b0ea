use Rattle.std.proofs.Common.{ℕ, ◌+◌, ◌++◌, List, length, refl, sym, ap, subst, ◌∙◌}
use Rattle.std.specs.Prelude.{codes}
use Rattle.etcs_vars.specs.declared.var.Var.TheVariants.{PADDING}
use Rattle.etcs_tables.specs.declared.row.Way.{Way}
use Rattle.etcs_tables.specs.Headers.{head_row}
use Rattle.etcs_tables.specs.Layouts.{layout}
use Rattle.etcs_tables.specs.Rows.{message_row_to}
use Rattle.etcs_rows.proofs.FrameLemmas.{row_found}
use Rattle.etcs_reader.specs.Fields.{ReadsFields}
use Rattle.etcs_messages.specs.Messages.{typed_message}
use Rattle.etcs_json.specs.Puts.{rest_of}
use Rattle.etcs_json.proofs.PutItems.{kept_put, typed_completes, typed_put}
use Rattle.etcs_json.proofs.TakenTexts.{after_taken, between_taken, front_taken, typed_taken}
use Rattle.etcs_json.proofs.line.put_typed.Goals as goal

pub returns : goal.returns
returns g c =
    let way = g.P.AnyPacket.WAY in
    let nid = c.in_ok-nid.nid in
    let own = c.args.own.now in
    let items = c.in_ok-row.row.items.now in
    let found = row_found (message_row_to way nid) items (rw c.WAY-3.ensures at c.in_ok-row.ensures) in
    let (t, first) = c.in_ok-pass_own.ensures in
    let (head, fields, headed, hbits) = c.in_ok-pass_head.ensures in
    let (body, ending, reads, long, ended, obits) = c.in_ok-put_own.ensures in
    let (vs, all, carried, listed, pbits) = c.in_ok-pass_packets.ensures in
    let (padding, few, padded, dbits) = c.in_ok-pass_padding.ensures in
    let one = c.pass_own.new.text in
    let own_fields = subst (λ (w : Way). ReadsFields (head_row w) head) c.WAY.ensures fields in
    let front = front_taken body head t ending own one c.pass_head.new.text (sym c.new-text.ensures ∙ first) ended (long ∙ ap (λ (z : List ℕ). length z + 10) c.left.ensures) headed in
    let between = between_taken way nid c.pass_head.new.text c.pass_way.new.text c.byte_and.new.self c.pass.new.self (rw c.WAY-2.ensures at c.in_ok-pass_way.ensures) c.in_ok-nid.ensures c.in_ok-pass.ensures in
    let beyond = after_taken way vs padding c.pass.new.self c.pass_packets.new.text c.pass_padding.new.text listed padded in
    let text = typed_taken way nid head body vs padding (codes "{\"fields\":" ++ own) c.pass_head.new.text c.pass.new.self c.pass_padding.new.text front between beyond in
    let bits = typed_put way nid head body vs padding c.args.out.now c.pass_head.new.out c.put_own.new.out c.pass_packets.new.out c.pass_padding.new.out hbits obits pbits (kept_put PADDING padding c.pass_packets.new.out c.pass_padding.new.out refl dbits) in
    (typed_message nid head body vs padding, rest_of way (typed_message nid head body vs padding), typed_completes way nid (layout items) head body vs padding found reads own_fields (carried refl) few, (c.pass_padding.new.text, ap (λ (z : List ℕ). length z) (sym c.left-2.ensures), text), bits)
