use Rattle.serde_json.specs.Written.{compact_text}
use Rattle.etcs_text.specs.Trees.{json_tree}
use Rattle.etcs_json.proofs.TakenTexts.{front_taken_at}
use Rattle.etcs_json.proofs.line.line_item.Goals as goal

pub returns : goal.returns
returns c =
    let (e, r, reads, leaves, is) = c.in_ok-after.ensures in
    let front = front_taken_at c.args.text.now (compact_text (json_tree e)) c.in_ok-after.after leaves in
    (e, r, reads, front.0, front.1, is)
