use Rattle.std.proofs.Common.{◌++◌, ap, ◌∙◌}
use Rattle.serde_json.specs.Written.{compact_text}
use Rattle.etcs_vars.specs.Reading.{Reading, numbers, spelled}
use Rattle.etcs_telegram.specs.Telegrams.{header_of}
use Rattle.etcs_packet_text.specs.Trees.{pairs_tree}
use Rattle.etcs_json.proofs.TakenTexts.{passed}
use Rattle.etcs_json.proofs.ItemTrees.{header_read}
use Rattle.etcs_json.proofs.line.pass_header.Goals as goal

pub returns : goal.returns
returns c =
    let (r, reads, within, text, bits) = c.in_ok-after.ensures in
    let k = header_read r reads in
    let taken = passed c.args.text.now c.left-left.result.now c.take.new.self (compact_text (pairs_tree r)) c.in_ok-after.after c.left-left.ensures c.take.ensures text in
    (header_of (numbers r), k.admitted, taken ∙ ap (λ (q : Reading). compact_text (pairs_tree q) ++ c.take.new.self) k.is, bits ∙ ap (λ (q : Reading). c.args.out.now ++ spelled q) k.is)
