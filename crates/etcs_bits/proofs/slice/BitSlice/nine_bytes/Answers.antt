use Rattle.std.proofs.Common.{◌≡◌, ◌+◌, ◌-◌, ◌/◌, ◌%◌, ◌^◌, ◌≤◌, length, take, drop, sym, ap, ◌∙◌, arith}
use Rattle.std.proofs.lemmas.List.{length-take, length-drop}
use Rattle.etcs_bits.specs.Bits.{value, bits, part}
use Rattle.etcs_bits.proofs.Positions.{length-bits}
use Rattle.etcs_bits.proofs.Steps.{part-rest}
use Rattle.etcs_bits.proofs.Views.{length-view, view_bits}
use Rattle.etcs_bits.proofs.NextWords.{word_front}
use Rattle.etcs_bits.proofs.slice.BitSlice.nine_bytes.Goals as goal

pub returns : goal.returns
returns c count small inside =
    let s = c.self.inside in
    let bytes = s.bytes.now in
    let seen = c.args.self.now in
    let start = c.in_ok-start.start in
    let at = start / 8 in
    let o = start % 8 in
    let size = length-view bytes seen s.offset s.len (sym c.self.view_is) c.self.invariant.1 in
    let rest = take (length bytes - at) (drop at bytes) in
    let long : o + 64 ≤ length (bits rest) = omega (arith, length-bits rest, length-take (length bytes - at) (drop at bytes), length-drop at bytes) in
    let whole : c.word_at.result / 2 ^ (64 - 64) ≡ value (part o 64 (bits rest)) = omega (arith, c.word_at.ensures) in
    word_front c.word_at.result (bits rest) o 64 count small (omega arith) long whole
    ∙ ap value (part-rest bytes at start o count (omega arith))
    ∙ ap value (view_bits bytes seen s.offset s.len c.args.from count start (sym c.self.view_is) (omega (arith, size, inside)) c.in_ok-start.ensures.1)
