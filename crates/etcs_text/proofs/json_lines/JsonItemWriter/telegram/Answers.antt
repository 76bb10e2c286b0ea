use Rattle.std.proofs.Common.{◌≡◌, ℕ, Bool, List, ◌++◌, ◌∙◌, ap, fold, length, map, sym, arith, eqb-true}
use Rattle.etcs_tables.specs.declared.row.Way.{Way}
use Rattle.etcs_tables.specs.declared.row.Way.TheVariants.{ToTrain}
use Rattle.etcs_packet_text.specs.PairSinks.{Listed, and_packet}
use Rattle.etcs_packet_text.specs.Show.{bit_digit}
use Rattle.etcs_text.proofs.TreeTexts.{telegram_json}
use Rattle.etcs_text.proofs.WrittenItems.{begins_added, begins_kept, begins_on, begins_past, six_begin}
use Rattle.etcs_text.proofs.json_lines.JsonItemWriter.telegram.Goals as goal

pub returns-clause-written : goal.returns-clause-written
returns-clause-written g c =
    let (vs, has, is) = rw c.in-Some-2.is at c.in_ok-after.ensures.some in
    λ yes.
    let long : length c.in-Some-2.after ≡ length c.in-Some.fill = omega (arith, eqb-true _ _ yes, c.len.ensures, c.len-2.ensures) in
    let same = (rw c.in-Some.is at c.after.ensures.same) vs c.in-Some-2.after has long in
    let filled = c.in_ok-put_slice.ensures.ok ∙ ap (λ (b : List Bool). c.put.new.self.0 ++ map bit_digit b) (sym same) in
    let named = c.in_ok-put-3.ensures.ok ∙ ap (λ (w : List ℕ). c.write_variables.new.page.0 ++ w) c.kind_member.ensures in
    let packets = is ∙ ap (λ (w : Way). fold (and_packet w) c.open_list.new.self vs) c.requires ∙ ap (λ (p : Listed). fold (and_packet ToTrain) p vs) c.in_ok-open_list.ensures.ok in
    (vs, c.in-Some-2.after, has, telegram_json c.args.size c.args.header.now vs c.in-Some-2.after c.args.page.now.0 c.put.new.self.0 c.put_slice.new.self.0 c.put-2.new.self.0 c.write_variables.new.page.0 c.put-3.new.self.0 c.write.new.page c.put-4.new.self.0 c.in_ok-put.ensures.ok filled c.in_ok-put-2.ensures.ok c.in_ok-write_variables.ensures.ok named packets c.in_ok-put-4.ensures.ok)

pub returns-in_err-write_variables-clause-begins : goal.returns-in_err-write_variables-clause-begins
returns-in_err-write_variables-clause-begins g c =
    let old = c.args.page.now.0 in
    let begun = begins_past old c.put_slice.new.self.0 _ c.put-2.new.self.0 (begins_past old c.put.new.self.0 _ c.put_slice.new.self.0 (begins_added old _ c.put.new.self.0 c.in_ok-put.ensures.ok) c.in_ok-put_slice.ensures.ok) c.in_ok-put-2.ensures.ok in
    begins_on old c.put-2.new.self.0 c.write_variables.new.page.0 begun c.in_err-write_variables.ensures.err

pub returns-in_err-after-clause-begins : goal.returns-in_err-after-clause-begins
returns-in_err-after-clause-begins g c =
    let old = c.args.page.now.0 in
    begins_on old c.open_list.new.self.0 c.write.new.page.0 (six_begin old c.put.new.self.0 c.put_slice.new.self.0 c.put-2.new.self.0 c.write_variables.new.page.0 c.put-3.new.self.0 c.open_list.new.self.0 _ _ _ _ _ _ c.in_ok-put.ensures.ok c.in_ok-put_slice.ensures.ok c.in_ok-put-2.ensures.ok c.in_ok-write_variables.ensures.ok c.in_ok-put-3.ensures.ok (ap (λ (p : Listed). p.0) c.in_ok-open_list.ensures.ok)) c.write.ensures.begins

pub returns-in_default-2-clause-begins : goal.returns-in_default-2-clause-begins
returns-in_default-2-clause-begins g c =
    let old = c.args.page.now.0 in
    begins_on old c.open_list.new.self.0 c.write.new.page.0 (six_begin old c.put.new.self.0 c.put_slice.new.self.0 c.put-2.new.self.0 c.write_variables.new.page.0 c.put-3.new.self.0 c.open_list.new.self.0 _ _ _ _ _ _ c.in_ok-put.ensures.ok c.in_ok-put_slice.ensures.ok c.in_ok-put-2.ensures.ok c.in_ok-write_variables.ensures.ok c.in_ok-put-3.ensures.ok (ap (λ (p : Listed). p.0) c.in_ok-open_list.ensures.ok)) c.write.ensures.begins

pub returns-in_err-put-4-clause-begins : goal.returns-in_err-put-4-clause-begins
returns-in_err-put-4-clause-begins g c =
    let old = c.args.page.now.0 in
    let written = begins_on old c.open_list.new.self.0 c.write.new.page.0 (six_begin old c.put.new.self.0 c.put_slice.new.self.0 c.put-2.new.self.0 c.write_variables.new.page.0 c.put-3.new.self.0 c.open_list.new.self.0 _ _ _ _ _ _ c.in_ok-put.ensures.ok c.in_ok-put_slice.ensures.ok c.in_ok-put-2.ensures.ok c.in_ok-write_variables.ensures.ok c.in_ok-put-3.ensures.ok (ap (λ (p : Listed). p.0) c.in_ok-open_list.ensures.ok)) c.write.ensures.begins in
    begins_kept old c.write.new.page.0 c.put-4.new.self.0 written c.in_err-put-4.ensures.err

pub returns-clause-begins : goal.returns-clause-begins
returns-clause-begins g c =
    let old = c.args.page.now.0 in
    let written = begins_on old c.open_list.new.self.0 c.write.new.page.0 (six_begin old c.put.new.self.0 c.put_slice.new.self.0 c.put-2.new.self.0 c.write_variables.new.page.0 c.put-3.new.self.0 c.open_list.new.self.0 _ _ _ _ _ _ c.in_ok-put.ensures.ok c.in_ok-put_slice.ensures.ok c.in_ok-put-2.ensures.ok c.in_ok-write_variables.ensures.ok c.in_ok-put-3.ensures.ok (ap (λ (p : Listed). p.0) c.in_ok-open_list.ensures.ok)) c.write.ensures.begins in
    begins_past old c.write.new.page.0 _ c.put-4.new.self.0 written c.in_ok-put-4.ensures.ok
