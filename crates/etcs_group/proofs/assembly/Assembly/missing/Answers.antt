use Rattle.std.proofs.Common.{◌≡◌, ◌∙◌, ◌+◌, refl, arith, length-set}
use Rattle.etcs_group.specs.Messages.{IsLacking}
use Rattle.etcs_group.proofs.Missing.{marked_more, none_marked}
use Rattle.etcs_group.proofs.Wholes.{missing_iff}
use Rattle.etcs_group.proofs.assembly.Assembly.missing.Goals as goal

pub loop-position-init : goal.loop-position-init
loop-position-init c = (refl, λ p. (λ marked. absurd (none_marked 8 p marked), λ h. absurd (omega (arith, h.0))))

pub loop-position-preserved : goal.loop-position-preserved
loop-position-preserved c =
    (length-set c.loop-position.missing c.loop-position.position c.is_lacking.result ∙ c.loop-position.invariant.0, marked_more c.loop-position.missing c.loop-position.position c.is_lacking.result (λ p. IsLacking c.args.self.now p) (omega (arith, c.loop-position.invariant.0, c.in-Some.ensures.small)) c.is_lacking.ensures c.loop-position.invariant.1)

pub returns-after-loop-position : goal.returns-after-loop-position
returns-after-loop-position c = λ p.
    let below = missing_iff c.args.self.now c.in-Some.total p (c.in-Some.ensures.held, c.in-Some.ensures.total) in
    let same : c.loop-position.position ≡ c.in-Some.total + 1 = omega arith in
    (λ marked. let h = (c.loop-position.invariant.1 p).0 marked in below.0 (omega (arith, same, h.0), h.1), λ m. let h = below.1 m in (c.loop-position.invariant.1 p).1 (omega (arith, same, h.0), h.1))

pub returns-in_default : goal.returns-in_default
returns-in_default c = λ p. (λ marked. absurd (none_marked 8 p marked), λ m. absurd (c.in_default.ensures.none m.0.0 m.0.1))
