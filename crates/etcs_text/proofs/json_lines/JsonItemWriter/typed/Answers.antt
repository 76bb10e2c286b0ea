use Rattle.std.proofs.Common.{◌++◌, ◌∙◌, ap, decimal, fold}
use Rattle.std.specs.Prelude.{codes}
use Rattle.etcs_tables.specs.declared.row.Way.{Way}
use Rattle.etcs_packet_text.specs.PairSinks.{Listed, and_packet}
use Rattle.etcs_text.specs.JsonParts.{way_member}
use Rattle.etcs_text.proofs.TreeTexts.{typed_json}
use Rattle.etcs_text.proofs.WrittenItems.{begins_kept, begins_on, begins_past, six_begin}
use Rattle.etcs_text.proofs.json_lines.JsonItemWriter.typed.Goals as goal

pub returns-clause-written : goal.returns-clause-written
returns-clause-written g c =
    let way = g.H.Packet.AnyPacket.WAY in
    let nid = g.B.Own.own.nid c.args.body.now in
    let (vs, has, is) = rw c.in-Some.is at c.in_ok-padding.ensures.some in
    let packets = is ∙ ap (λ (w : Way). fold (and_packet w) c.open_list.new.self vs) c.requires.way ∙ ap (λ (p : Listed). fold (and_packet way) p vs) c.in_ok-open_list.ensures.ok in
    let named = rw (c.way_member.ensures, c.WAY.ensures, c.from-number.ensures, c.nid.ensures) at c.in_ok-put_between.ensures.ok in
    λ yes. (vs, c.in-Some.padding, has, λ long. typed_json way nid (g.H.Variables.reading_of c.args.head.now) (g.B.Variables.reading_of c.args.body.now) vs c.in-Some.padding c.args.page.now.0 c.put.new.self.0 c.write_variables.new.page.0 c.put-2.new.self.0 c.write_variables-2.new.page.0 c.put_between.new.self.0 c.write.new.page c.put-3.new.self.0 c.put_slice.new.self.0 c.put-4.new.self.0 c.in_ok-put.ensures.ok c.in_ok-write_variables.ensures.ok c.in_ok-put-2.ensures.ok c.in_ok-write_variables-2.ensures.ok named packets c.in_ok-put-3.ensures.ok c.in_ok-put_slice.ensures.ok c.in_ok-put-4.ensures.ok)

pub returns-in_default-clause-begins : goal.returns-in_default-clause-begins
returns-in_default-clause-begins g c =
    let old = c.args.page.now.0 in
    begins_on old c.open_list.new.self.0 c.write.new.page.0 (six_begin old c.put.new.self.0 c.write_variables.new.page.0 c.put-2.new.self.0 c.write_variables-2.new.page.0 c.put_between.new.self.0 c.open_list.new.self.0 _ _ _ _ _ _ c.in_ok-put.ensures.ok c.in_ok-write_variables.ensures.ok c.in_ok-put-2.ensures.ok c.in_ok-write_variables-2.ensures.ok c.in_ok-put_between.ensures.ok (ap (λ (p : Listed). p.0) c.in_ok-open_list.ensures.ok)) c.write.ensures.begins

pub returns-in_err-put-3-clause-begins : goal.returns-in_err-put-3-clause-begins
returns-in_err-put-3-clause-begins g c =
    let old = c.args.page.now.0 in
    let written = begins_on old c.open_list.new.self.0 c.write.new.page.0 (six_begin old c.put.new.self.0 c.write_variables.new.page.0 c.put-2.new.self.0 c.write_variables-2.new.page.0 c.put_between.new.self.0 c.open_list.new.self.0 _ _ _ _ _ _ c.in_ok-put.ensures.ok c.in_ok-write_variables.ensures.ok c.in_ok-put-2.ensures.ok c.in_ok-write_variables-2.ensures.ok c.in_ok-put_between.ensures.ok (ap (λ (p : Listed). p.0) c.in_ok-open_list.ensures.ok)) c.write.ensures.begins in
    begins_kept old c.write.new.page.0 c.put-3.new.self.0 written c.in_err-put-3.ensures.err

pub returns-in_err-put_slice-clause-begins : goal.returns-in_err-put_slice-clause-begins
returns-in_err-put_slice-clause-begins g c =
    let old = c.args.page.now.0 in
    let written = begins_on old c.open_list.new.self.0 c.write.new.page.0 (six_begin old c.put.new.self.0 c.write_variables.new.page.0 c.put-2.new.self.0 c.write_variables-2.new.page.0 c.put_between.new.self.0 c.open_list.new.self.0 _ _ _ _ _ _ c.in_ok-put.ensures.ok c.in_ok-write_variables.ensures.ok c.in_ok-put-2.ensures.ok c.in_ok-write_variables-2.ensures.ok c.in_ok-put_between.ensures.ok (ap (λ (p : Listed). p.0) c.in_ok-open_list.ensures.ok)) c.write.ensures.begins in
    begins_kept old c.put-3.new.self.0 c.put_slice.new.self.0 (begins_past old c.write.new.page.0 _ c.put-3.new.self.0 written c.in_ok-put-3.ensures.ok) c.in_err-put_slice.ensures.err

pub returns-in_err-put-4-clause-begins : goal.returns-in_err-put-4-clause-begins
returns-in_err-put-4-clause-begins g c =
    let old = c.args.page.now.0 in
    let written = begins_on old c.open_list.new.self.0 c.write.new.page.0 (six_begin old c.put.new.self.0 c.write_variables.new.page.0 c.put-2.new.self.0 c.write_variables-2.new.page.0 c.put_between.new.self.0 c.open_list.new.self.0 _ _ _ _ _ _ c.in_ok-put.ensures.ok c.in_ok-write_variables.ensures.ok c.in_ok-put-2.ensures.ok c.in_ok-write_variables-2.ensures.ok c.in_ok-put_between.ensures.ok (ap (λ (p : Listed). p.0) c.in_ok-open_list.ensures.ok)) c.write.ensures.begins in
    let filled = begins_past old c.put-3.new.self.0 _ c.put_slice.new.self.0 (begins_past old c.write.new.page.0 _ c.put-3.new.self.0 written c.in_ok-put-3.ensures.ok) c.in_ok-put_slice.ensures.ok in
    begins_kept old c.put_slice.new.self.0 c.put-4.new.self.0 filled c.in_err-put-4.ensures.err

pub returns-clause-begins : goal.returns-clause-begins
returns-clause-begins g c =
    let old = c.args.page.now.0 in
    let written = begins_on old c.open_list.new.self.0 c.write.new.page.0 (six_begin old c.put.new.self.0 c.write_variables.new.page.0 c.put-2.new.self.0 c.write_variables-2.new.page.0 c.put_between.new.self.0 c.open_list.new.self.0 _ _ _ _ _ _ c.in_ok-put.ensures.ok c.in_ok-write_variables.ensures.ok c.in_ok-put-2.ensures.ok c.in_ok-write_variables-2.ensures.ok c.in_ok-put_between.ensures.ok (ap (λ (p : Listed). p.0) c.in_ok-open_list.ensures.ok)) c.write.ensures.begins in
    let filled = begins_past old c.put-3.new.self.0 _ c.put_slice.new.self.0 (begins_past old c.write.new.page.0 _ c.put-3.new.self.0 written c.in_ok-put-3.ensures.ok) c.in_ok-put_slice.ensures.ok in
    begins_past old c.put_slice.new.self.0 _ c.put-4.new.self.0 filled c.in_ok-put-4.ensures.ok
