use Rattle.etcs_bits.proofs.Words.{word_found}
use Rattle.etcs_bits.proofs.walker.first_word.Goals as goal

pub returns : goal.returns
returns c = word_found c.args.bytes.now c.from_be_bytes.result c.requires (λ k. (c.type_inv.bytes k).fits) c.from_be_bytes.ensures
