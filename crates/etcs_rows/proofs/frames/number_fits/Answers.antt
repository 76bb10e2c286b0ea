use Rattle.std.proofs.Common.{◌^◌}
use Rattle.std.proofs.lemmas.Bool.{both_ways}
use Rattle.etcs_rows.proofs.FrameLemmas.{by_framed}
use Rattle.etcs_rows.proofs.frames.number_fits.Goals as goal

pub returns : goal.returns
returns c =
    let a = c.args in let e = c.ends-low in
    by_framed a.carrier a.room (2 ^ a.rest) a.bits e.result.0 e.result.1 c.any_framed.result e.ensures.all (λ x. both_ways c.unframed_fits.result c.if-unframed_fits.false (c.unframed_fits.ensures.1 x)) c.any_framed.ensures
