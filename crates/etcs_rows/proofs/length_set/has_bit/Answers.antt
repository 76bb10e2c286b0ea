use Rattle.std.proofs.Common.{arith}
use Rattle.std.proofs.lemmas.Bool.Decides.{nat_tests}
use Rattle.etcs_rows.proofs.Flags.{flag_cut_out, cut_out_flag}
use Rattle.etcs_rows.proofs.length_set.has_bit.Goals as goal

pub returns : goal.returns
returns c =
    let word = c.args.word in let low = c.args.low in let high = c.args.high in (
      λ h. cut_out_flag word low high c.requires.order c.requires.bound (grind (arith, nat_tests, h)),
      λ h. let some = flag_cut_out word low high c.requires.order c.requires.bound h in grind (arith, nat_tests, some),
    )
