use Rattle.std.proofs.Common.{arith}
use Rattle.etcs_bits.proofs.Copies.{copied_more}
use Rattle.etcs_bits.proofs.copying.copy_words.Goals as goal

pub loop-done-preserved : goal.loop-done-preserved
loop-done-preserved c =
    let s = c.loop-done in
    (omega arith, copied_more c.args.bytes.now c.args.to.now s.to c.write_word.new.bytes c.args.offset s.done c.word_at-word.result c.requires.offset (omega arith) (omega arith) s.invariant.1 c.word_at-word.ensures c.write_word.ensures)
