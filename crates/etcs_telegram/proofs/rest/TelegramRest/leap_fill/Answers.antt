use Rattle.std.proofs.Common.{refl, sym, ap, ◌∙◌, arith}
use Rattle.etcs_bits.specs.Bits.{bits, part}
use Rattle.etcs_bits.proofs.Lists.{length-part}
use Rattle.etcs_vars.specs.declared.var.Var.TheVariants.{FILL}
use Rattle.etcs_vars.specs.Reading.{kept}
use Rattle.etcs_sequence.specs.laws.BitLaws.{bits_spelled}
use Rattle.etcs_sequence.proofs.Leaps.{on_err}
use Rattle.etcs_telegram.proofs.RestSteps.{fill_parts, fill_viable}
use Rattle.etcs_telegram.proofs.rest.TelegramRest.leap_fill.Goals as goal

pub returns-clause-some : goal.returns-clause-some
returns-clause-some g c =
    let pos = (fill_parts c.args.self.now c.args.left c.requires.phase).0 in
    record {
      some = omega (arith, c.run_at-run.ensures.some pos, c.len.ensures);
      inside = omega (arith, c.run_at-run.ensures.inside, c.len.ensures);
      goes = c.in_ok-fill.ensures.goes;
      whole = kept FILL c.run_at-run.result;
      follows = c.in_ok-fill.ensures.ok;
      bits = bits_spelled FILL c.run_at-run.result refl ∙ c.run_at-run.ensures.bits ∙ ap (λ n. part c.args.at n (bits c.args.piece.now)) (sym c.len.ensures);
    }

pub returns-in_err-fill-clause-viable : goal.returns-in_err-fill-clause-viable
returns-in_err-fill-clause-viable g c =
    let s = c.args.self.now in
    let xs = bits c.args.piece.now in
    let pos = (fill_parts s c.args.left c.requires.phase).0 in
    let one = length-part c.args.at 1 xs (omega (arith, c.requires.inside)) in
    on_err c.from_residual.result (rw c.requires.phase (fill_viable s.size c.args.left (part c.args.at 1 xs) (omega (arith, one, pos))))
