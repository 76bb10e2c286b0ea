use Rattle.std.proofs.Common.{◌-◌, ◌/◌, ◌%◌, ◌≤◌, length, take, drop, sym, ap, ◌∙◌, arith}
use Rattle.std.proofs.lemmas.List.{length-take, length-drop}
use Rattle.etcs_bits.specs.Bits.{value, part}
use Rattle.etcs_bits.proofs.Steps.{part-rest}
use Rattle.etcs_bits.proofs.Views.{length-view, view_bits}
use Rattle.etcs_bits.proofs.Words.{word_read}
use Rattle.etcs_bits.proofs.slice.BitSlice.word_from.Goals as goal

pub returns : goal.returns
returns c =
    let s = c.self.inside in
    let bytes = s.bytes.now in
    let seen = c.args.self.now in
    let from = c.args.from in
    let start = c.in_ok-start.start in
    let at = start / 8 in
    let count = c.min-count.result in
    let size = length-view bytes seen s.offset s.len (sym c.self.view_is) c.self.invariant.1 in
    let rest = take (length bytes - at) (drop at bytes) in
    let long : 8 ≤ length rest = omega (arith, length-take (length bytes - at) (drop at bytes), length-drop at bytes) in
    let found = word_read rest c.first_word.result (start % 8) count long (omega arith) c.first_word.ensures
    ∙ ap value (part-rest bytes at start (start % 8) count (omega arith))
    ∙ ap value (view_bits bytes seen s.offset s.len from count start (sym c.self.view_is) (omega (arith, size)) c.in_ok-start.ensures.1) in
    record { small = omega arith; order = omega arith; inside = omega (arith, size, c.requires); word_is = found ∙ ap (λ m. value (part m count seen)) (omega arith) }
