use Rattle.std.proofs.Common.{Ok, Err}
use Rattle.etcs_text.proofs.MessageTexts.{kept_lines}
use Rattle.etcs_text.proofs.WrittenItems.{kept_ok}
use Rattle.etcs_text.proofs.show.LinesItemWriter.kept.Goals as goal

pub returns-clause-written : goal.returns-clause-written
returns-clause-written c =
    kept_ok c.put_bits_line.result (λ is long. kept_lines c.args.way c.args.nid c.args.bytes c.args.self.now.item c.args.bits.now c.args.page.now c.write_front.new.page c.put_bits_line.new.self long c.in_ok-write_front.ensures.ok is) c.put_bits_line.ensures.ok
