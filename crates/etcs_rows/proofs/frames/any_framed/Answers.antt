use Rattle.std.proofs.Common.{ℕ, ◌≤◌, below_more, arith}
use Rattle.std.proofs.lemmas.Bool.{both_ways}
use Rattle.etcs_rows.specs.Frames.{LengthFits}
use Rattle.etcs_rows.proofs.frames.any_framed.Goals as goal

pub loop-nid-preserved : goal.loop-nid-preserved
loop-nid-preserved c = below_more _ _ c.loop-nid.invariant (λ low x. both_ways c.framed_fits.result c.if-framed_fits.false (c.framed_fits.ensures.1 x))

pub returns-else-framed_fits : goal.returns-else-framed_fits
returns-else-framed_fits c =
    let Fits = λ (n : ℕ). c.args.low ≤ n → ((l : ℕ) × LengthFits c.args.carrier n c.args.room l) → ⊥ in
    let none = below_more Fits c.loop-nid.nid c.loop-nid.invariant (λ low x. both_ways c.framed_fits.result c.if-framed_fits.false (c.framed_fits.ensures.1 x)) in
    (λ f. absurd cc, λ (n, low, high, x). absurd (none n (omega (arith, low, high)) low x))
