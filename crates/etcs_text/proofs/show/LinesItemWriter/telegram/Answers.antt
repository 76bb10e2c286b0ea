use Rattle.std.proofs.Common.{◌∙◌, ap, fold}
use Rattle.etcs_tables.specs.declared.row.Way.{Way}
use Rattle.etcs_packet_text.specs.LineSinks.{and_lines}
use Rattle.etcs_text.proofs.TelegramTexts.{telegram_lines}
use Rattle.etcs_text.proofs.WrittenItems.{begins_added, begins_kept, begins_on, begins_past}
use Rattle.etcs_text.proofs.show.LinesItemWriter.telegram.Goals as goal

pub returns-clause-written : goal.returns-clause-written
returns-clause-written g c =
    let (vs, has, is) = rw c.in-Some.is at c.in_ok-fill.ensures.some in
    let packets = is ∙ ap (λ (w : Way). fold (and_lines w) c.write_header.new.page vs) c.requires in
    λ yes. (vs, c.in-Some.fill, has, telegram_lines c.args.size c.args.header.now vs c.in-Some.fill c.args.self.now.item c.args.page.now c.write_item.new.page c.write_header.new.page c.write.new.page c.put.new.self c.put_bits_line.new.self c.in_ok-write_item.ensures.ok c.in_ok-write_header.ensures.ok packets c.in_ok-put.ensures.ok c.in_ok-put_bits_line.ensures.ok)

pub returns-in_err-fill-clause-begins : goal.returns-in_err-fill-clause-begins
returns-in_err-fill-clause-begins g c =
    let old = c.args.page.now in
    let begun = begins_past old c.write_item.new.page _ c.write_header.new.page (begins_added old _ c.write_item.new.page c.in_ok-write_item.ensures.ok) c.in_ok-write_header.ensures.ok in
    begins_on old c.write_header.new.page c.write.new.page begun c.write.ensures.begins

pub returns-in_default-clause-begins : goal.returns-in_default-clause-begins
returns-in_default-clause-begins g c =
    let old = c.args.page.now in
    let begun = begins_past old c.write_item.new.page _ c.write_header.new.page (begins_added old _ c.write_item.new.page c.in_ok-write_item.ensures.ok) c.in_ok-write_header.ensures.ok in
    begins_on old c.write_header.new.page c.write.new.page begun c.write.ensures.begins

pub returns-in_err-put-clause-begins : goal.returns-in_err-put-clause-begins
returns-in_err-put-clause-begins g c =
    let old = c.args.page.now in
    let begun = begins_past old c.write_item.new.page _ c.write_header.new.page (begins_added old _ c.write_item.new.page c.in_ok-write_item.ensures.ok) c.in_ok-write_header.ensures.ok in
    begins_kept old c.write.new.page c.put.new.self (begins_on old c.write_header.new.page c.write.new.page begun c.write.ensures.begins) c.in_err-put.ensures.err

pub returns-in_err-put_bits_line-clause-begins : goal.returns-in_err-put_bits_line-clause-begins
returns-in_err-put_bits_line-clause-begins g c =
    let old = c.args.page.now in
    let begun = begins_past old c.write_item.new.page _ c.write_header.new.page (begins_added old _ c.write_item.new.page c.in_ok-write_item.ensures.ok) c.in_ok-write_header.ensures.ok in
    let written = begins_on old c.write_header.new.page c.write.new.page begun c.write.ensures.begins in
    begins_kept old c.put.new.self c.put_bits_line.new.self (begins_past old c.write.new.page _ c.put.new.self written c.in_ok-put.ensures.ok) c.in_err-put_bits_line.ensures.err

pub returns-clause-begins : goal.returns-clause-begins
returns-clause-begins g c =
    let old = c.args.page.now in
    let begun = begins_past old c.write_item.new.page _ c.write_header.new.page (begins_added old _ c.write_item.new.page c.in_ok-write_item.ensures.ok) c.in_ok-write_header.ensures.ok in
    let written = begins_on old c.write_header.new.page c.write.new.page begun c.write.ensures.begins in
    begins_past old c.put.new.self _ c.put_bits_line.new.self (begins_past old c.write.new.page _ c.put.new.self written c.in_ok-put.ensures.ok) c.in_ok-put_bits_line.ensures.ok
