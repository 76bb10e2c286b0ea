use Rattle.std.proofs.Common.{◌∙◌, arith}
use Rattle.etcs_bits.proofs.WordWrites.{word_write}
use Rattle.etcs_bits.proofs.poker.write_in_word.Goals as goal

pub returns : goal.returns
returns c = word_write c.args.bytes.now c.copy_from_slice.new.self c.args.offset c.args.width c.first_word.result c.with_number_in_word-word.result c.args.value c.requires.word c.requires.inside (omega arith) c.first_word.ensures c.with_number_in_word-word.ensures (c.copy_from_slice.ensures.after ∙ c.to_be_bytes.ensures)
