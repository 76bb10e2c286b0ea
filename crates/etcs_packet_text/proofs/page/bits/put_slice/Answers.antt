use Rattle.std.proofs.Common.{◌≡◌, ◌+◌, ◌≤◌, ◌++◌, ◌∙◌, arith, length, take, ap, map, List, Bool, Some}
use Rattle.etcs_bits.specs.Bits.{number_at}
use Rattle.etcs_packet_text.specs.Show.{bit_digit}
use Rattle.etcs_packet_text.proofs.Texts.{part_bits, part_more}
use Rattle.etcs_packet_text.proofs.page.bits.put_slice.Goals as goal

pub loop-from-preserved : goal.loop-from-preserved
loop-from-preserved c =
    let l = c.loop-from in
    let bits = c.args.bits.now in
    let width = c.min-width.result in
    let put = c.put_bits-end in
    let inside : l.from + width ≤ length bits = omega arith in
    let number : Some c.in-Some.number ≡ number_at l.from width bits = c.in-Some.ensures in (
      inside,
      omega (arith, l.invariant.1, put.ensures.end),
      put.ensures.len ∙ l.invariant.2,
      part_more bits l.from width (take c.args.at c.args.place.now) _ _ l.invariant.3
          (put.ensures.bytes ∙ ap (λ (z : List Bool). take l.end l.place ++ map bit_digit z) (part_bits bits l.from width c.in-Some.number inside number)),
    )
