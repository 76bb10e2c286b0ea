use Rattle.std.proofs.Common.{rules, ◌≡◌, ◌+◌, Bool, List, ℕ, [], ◌∷◌, ◌++◌, sym, ap, ◌∙◌, append_assoc}
use Rattle.std.proofs.Output.{has_written_append}
use Rattle.etcs_bits.specs.Bits.{bit}
use Rattle.etcs_bits.specs.Texts.{digits}
use Rattle.etcs_bits.proofs.digits.BitSliceDisplay.fmt.Goals as goal
use Rattle.etcs_bits.proofs.digits.BitSliceDisplay.fmt.Goals.{then-bit, else-bit}

pub loop-bit-preserved : goal.loop-bit-preserved
loop-bit-preserved g c =
    λ plain.
    let now = c.loop-bit.invariant plain in
    let text = c.if-bit.write_str.now in
    let beyond = c.next.new.self in
    let digit : text ≡ (48 + bit c.in-Some.bit) ∷ [] = elim c.if-bit.branch [ then-bit w ↦ search rules | else-bit w ↦ search rules ] in (
      now.0 ++ text,
      has_written_append _ _ _ _ _ _ now.1 (search rules),
      append_assoc now.0 text (digits beyond)
          ∙ ap (λ (l : List ℕ). now.0 ++ (l ++ digits beyond)) digit
          ∙ ap (λ (s : List Bool). now.0 ++ digits s) (sym c.in-Some.ensures.steps)
          ∙ now.2,
    )
