use Rattle.std.proofs.Common.{◌<◌, ◌^◌, refl, arith}
use Rattle.etcs_bits.proofs.Positions.{length-bits}
use Rattle.etcs_bits.proofs.Steps.{too_large, fits_width, fits_whole}
use Rattle.etcs_bits.proofs.poker.poke.Goals as goal
use Rattle.etcs_bits.proofs.poker.poke.Goals.{else-width-lt64-via-then-width-lt64+else-value-width-ne0, else-width-lt64-via-else-width-lt64}

pub write-requires-clause-inside : goal.write-requires-clause-inside
write-requires-clause-inside c = omega (arith, length-bits c.args.bytes.now)

pub returns-then-start-width-clause-past_end : goal.returns-then-start-width-clause-past_end
returns-then-start-width-clause-past_end c = (λ _. omega (arith, length-bits c.args.bytes.now), λ _. refl)

pub returns-then-start-width-clause-too_large : goal.returns-then-start-width-clause-too_large
returns-then-start-width-clause-too_large c = (λ e. absurd cc, λ h. absurd (omega (arith, length-bits c.args.bytes.now, h.0)))

pub returns-then-value-width-ne0-clause-past_end : goal.returns-then-value-width-ne0-clause-past_end
returns-then-value-width-ne0-clause-past_end c = (λ e. absurd cc, λ h. absurd (omega (arith, length-bits c.args.bytes.now)))

pub returns-then-value-width-ne0-clause-too_large : goal.returns-then-value-width-ne0-clause-too_large
returns-then-value-width-ne0-clause-too_large c = (λ _. (omega (arith, length-bits c.args.bytes.now), too_large c.args.value c.args.width c.if-value-width-ne0.true), λ _. refl)

pub write-requires-clause-fits : goal.write-requires-clause-fits
write-requires-clause-fits c =
    elim c.else-width-lt64.branch [
      | else-width-lt64-via-then-width-lt64+else-value-width-ne0 w ↦ fits_width c.args.value c.args.width w.if-value-width-ne0.false
      | else-width-lt64-via-else-width-lt64 w ↦ fits_whole c.args.value c.args.width (omega arith) (omega arith) c.requires
    ]

pub returns-clause-ok : goal.returns-clause-ok
returns-clause-ok c =
    let fits : c.args.value < 2 ^ c.args.width =
    elim c.else-width-lt64.branch [
      | else-width-lt64-via-then-width-lt64+else-value-width-ne0 w ↦ fits_width c.args.value c.args.width w.if-value-width-ne0.false
      | else-width-lt64-via-else-width-lt64 w ↦ fits_whole c.args.value c.args.width (omega arith) (omega arith) c.requires
    ] in
    (omega (arith, length-bits c.args.bytes.now), fits, c.write.ensures)

pub returns-clause-too_large : goal.returns-clause-too_large
returns-clause-too_large c =
    let fits : c.args.value < 2 ^ c.args.width =
    elim c.else-width-lt64.branch [
      | else-width-lt64-via-then-width-lt64+else-value-width-ne0 w ↦ fits_width c.args.value c.args.width w.if-value-width-ne0.false
      | else-width-lt64-via-else-width-lt64 w ↦ fits_whole c.args.value c.args.width (omega arith) (omega arith) c.requires
    ] in
    (λ e. absurd cc, λ h. absurd (omega (arith, fits, h.1)))

pub returns-clause-past_end : goal.returns-clause-past_end
returns-clause-past_end c = (λ e. absurd cc, λ h. absurd (omega (arith, length-bits c.args.bytes.now)))
