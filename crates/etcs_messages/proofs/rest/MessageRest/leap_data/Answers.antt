use Rattle.std.proofs.Common.{refl, sym, ap, ◌∙◌, arith}
use Rattle.etcs_bits.specs.Bits.{bits, part}
use Rattle.etcs_bits.proofs.Lists.{length-part}
use Rattle.etcs_vars.specs.declared.var.Var.TheVariants.{OTHER_DATA}
use Rattle.etcs_vars.specs.Reading.{kept}
use Rattle.etcs_sequence.specs.laws.BitLaws.{bits_spelled, bits_viable}
use Rattle.etcs_sequence.proofs.Leaps.{on_err}
use Rattle.etcs_messages.proofs.RestStands.{data_parts}
use Rattle.etcs_messages.proofs.rest.MessageRest.leap_data.Goals as goal

pub returns-clause-some : goal.returns-clause-some
returns-clause-some g c =
    let pos = (data_parts c.args.self.now c.args.left c.requires.phase).0 in
    record {
      some = omega (arith, c.run_at-run.ensures.some pos, c.len.ensures);
      inside = omega (arith, c.run_at-run.ensures.inside, c.len.ensures);
      goes = c.in_ok-keep.ensures.goes;
      whole = kept OTHER_DATA c.run_at-run.result;
      follows = c.in_ok-keep.ensures.ok;
      bits = bits_spelled OTHER_DATA c.run_at-run.result refl ∙ c.run_at-run.ensures.bits ∙ ap (λ n. part c.args.at n (bits c.args.piece.now)) (sym c.len.ensures);
    }

pub returns-in_err-keep-clause-viable : goal.returns-in_err-keep-clause-viable
returns-in_err-keep-clause-viable g c =
    let xs = bits c.args.piece.now in
    let pos = (data_parts c.args.self.now c.args.left c.requires.phase).0 in
    let one = length-part c.args.at 1 xs (omega (arith, c.requires.inside)) in
    on_err c.from_residual.result (rw c.requires.phase (bits_viable OTHER_DATA refl c.args.left (part c.args.at 1 xs) (omega (arith, one, pos))))
