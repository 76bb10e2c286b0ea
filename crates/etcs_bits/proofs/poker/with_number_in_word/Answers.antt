use Rattle.std.proofs.Common.{arith}
use Rattle.etcs_bits.proofs.WordWrites.{word_fits, word_replaced}
use Rattle.etcs_bits.proofs.poker.with_number_in_word.Goals as goal

pub overflow_add-result : goal.overflow_add-result
overflow_add-result c = omega (arith, word_fits c.args.offset c.args.width c.args.word c.args.value (omega arith) c.requires.width c.requires.inside c.requires.fits)

pub overflow_add-result-2 : goal.overflow_add-result-2
overflow_add-result-2 c = omega (arith, word_fits c.args.offset c.args.width c.args.word c.args.value (omega arith) c.requires.width c.requires.inside c.requires.fits)

pub returns : goal.returns
returns c = word_replaced c.args.offset c.args.width c.args.word c.args.value (omega arith) c.requires.width c.requires.inside c.requires.fits
