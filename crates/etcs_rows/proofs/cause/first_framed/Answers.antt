use Rattle.std.proofs.Common.{ℕ, ◌≤◌, ◌∙◌, below_more, arith}
use Rattle.std.specs.Prelude.{IsTrue}
use Rattle.std.proofs.lemmas.Bool.{both_ways}
use Rattle.etcs_tables.specs.Frames.{is_framed}
use Rattle.etcs_rows.proofs.cause.first_framed.Goals as goal

pub loop-nid-preserved : goal.loop-nid-preserved
loop-nid-preserved c = below_more _ _ c.loop-nid.invariant (λ low x. both_ways c.is_framed.result c.if-is_framed.false (c.is_framed.ensures ∙ x))

pub returns-else-is_framed-clause-none : goal.returns-else-is_framed-clause-none
returns-else-is_framed-clause-none c _ n low high x =
    let Framed = λ (m : ℕ). c.args.low ≤ m → IsTrue (is_framed c.args.way m) → ⊥ in
    below_more Framed c.loop-nid.nid c.loop-nid.invariant (λ l y. both_ways c.is_framed.result c.if-is_framed.false (c.is_framed.ensures ∙ y)) n (omega (arith, low, high)) low x
