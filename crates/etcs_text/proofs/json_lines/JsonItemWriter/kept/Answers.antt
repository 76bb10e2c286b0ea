use Rattle.etcs_text.proofs.TreeTexts.{kept_json}
use Rattle.etcs_text.proofs.WrittenItems.{kept_ok}
use Rattle.etcs_text.proofs.json_lines.JsonItemWriter.kept.Goals as goal

pub returns-clause-written : goal.returns-clause-written
returns-clause-written c =
    kept_ok c.put_between.result (λ is long. kept_json c.args.way c.args.nid c.args.bits.now c.args.page.now.0 c.put.new.self.0 c.put_slice.new.self.0 c.put-2.new.self.0 c.put_between.new.self.0 c.in_ok-put.ensures.ok c.in_ok-put_slice.ensures.ok c.in_ok-put-2.ensures.ok is) (rw (c.way_member.ensures, c.from.ensures) at c.put_between.ensures.ok)
