use Rattle.std.proofs.Common.{arith}
use Rattle.etcs_bits.proofs.Copies.{word_shifted, word_room}
use Rattle.etcs_bits.proofs.copying.word_at.Goals as goal

pub overflow_add-result : goal.overflow_add-result
overflow_add-result c = omega (arith, word_room c.args.bytes.now c.args.offset c.first_word.result c.read_byte.result c.requires.offset c.requires.inside c.first_word.ensures c.read_byte.ensures)

pub returns : goal.returns
returns c = word_shifted c.args.bytes.now c.args.offset c.first_word.result c.read_byte.result c.requires.offset c.requires.inside c.first_word.ensures c.read_byte.ensures
