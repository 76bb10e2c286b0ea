use Rattle.std.proofs.Common.{sym, ◌∙◌, arith}
use Rattle.etcs_bits.proofs.Kept.{kept_word}
use Rattle.etcs_bits.proofs.slice_walker.next_bits_from.Goals as goal

pub returns-in_ok-number-in_default-clause-next : goal.returns-in_ok-number-in_default-clause-next
returns-in_ok-number-in_default-clause-next c =
    let found = sym c.number.ensures ∙ c.in_ok-number-in_default.was in
    kept_word c.in_ok-number-in_default.number c.min-count.result c.args.bits.now c.args.at (omega arith) (omega (arith, c.len.ensures, c.requires.inside)) found
