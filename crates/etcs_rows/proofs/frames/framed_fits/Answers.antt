use Rattle.etcs_rows.proofs.FrameLemmas.{any_length}
use Rattle.etcs_rows.proofs.frames.framed_fits.Goals as goal

pub returns : goal.returns
returns c =
    let a = c.args in
    let same = any_length a.carrier a.nid a.room in
    (λ t. same.0 (c.length_fits.ensures.0 t), λ x. c.length_fits.ensures.1 (same.1 x))
