use Rattle.std.proofs.Common.{◌∙◌, arith}
use Rattle.etcs_bits.proofs.Copies.{word_written}
use Rattle.etcs_bits.proofs.copying.write_word.Goals as goal

pub returns : goal.returns
returns c = word_written c.args.bytes.now c.copy_from_slice.new.self c.args.word (omega arith) (c.copy_from_slice.ensures.after ∙ c.to_be_bytes.ensures)
