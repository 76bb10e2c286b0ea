use Rattle.std.proofs.Common.{◌≡◌, ◌+◌, ◌-◌, ◌*◌, ◌/◌, ◌^◌, ◌≤◌, false, length, take, drop, replicate, refl, sym, ap, ◌∙◌, arith}
use Rattle.std.proofs.lemmas.List.{length-take, length-drop}
use Rattle.etcs_bits.specs.Bits.{value, bits, part}
use Rattle.etcs_bits.proofs.Lists.{part-append_left}
use Rattle.etcs_bits.proofs.Positions.{length-bits}
use Rattle.etcs_bits.proofs.Steps.{part-rest}
use Rattle.etcs_bits.proofs.Views.{length-view, view_bits}
use Rattle.etcs_bits.proofs.Words.{word_middle}
use Rattle.etcs_bits.proofs.NextWords.{word_front}
use Rattle.etcs_bits.proofs.slice.BitSlice.word_at_end.Goals as goal

pub slice_bounds-rest-count : goal.slice_bounds-rest-count
slice_bounds-rest-count c =
    let s = c.self.inside in
    let size = length-view s.bytes.now c.args.self.now s.offset s.len (sym c.self.view_is) c.self.invariant.1 in
    omega (arith, size, c.requires, c.byte_of-at.ensures.place, c.self.invariant, length-bits s.bytes.now)

pub slice_bounds-rest-start : goal.slice_bounds-rest-start
slice_bounds-rest-start c =
    let s = c.self.inside in
    let size = length-view s.bytes.now c.args.self.now s.offset s.len (sym c.self.view_is) c.self.invariant.1 in
    omega (arith, size, c.requires, c.byte_of-at.ensures.place, c.self.invariant, length-bits s.bytes.now)

pub last_word-requires-clause-some : goal.last_word-requires-clause-some
last_word-requires-clause-some c =
    let s = c.self.inside in
    let at = c.byte_of-at.result.0 in
    let bytes = s.bytes.now in
    let size = length-view bytes c.args.self.now s.offset s.len (sym c.self.view_is) c.self.invariant.1 in
    omega (arith, size, c.requires, c.byte_of-at.ensures.place, c.byte_of-at.ensures.offset, c.self.invariant, length-bits bytes, length-take (length bytes - at) (drop at bytes), length-drop at bytes)

pub returns-then-rest-gt8 : goal.returns-then-rest-gt8
returns-then-rest-gt8 c count small inside =
    let s = c.self.inside in
    let bytes = s.bytes.now in
    let seen = c.args.self.now in
    let at = c.byte_of-at.result.0 in
    let o = c.byte_of-at.result.1 in
    let start = s.offset + c.args.from in
    let size = length-view bytes seen s.offset s.len (sym c.self.view_is) c.self.invariant.1 in
    let rest = take (length bytes - at) (drop at bytes) in
    let long : o + 64 ≤ length (bits rest) = omega (arith, c.byte_of-at.ensures.offset, c.if-rest-gt8.true, length-bits rest, length-take (length bytes - at) (drop at bytes), length-drop at bytes) in
    let whole : c.word_at.result / 2 ^ (64 - 64) ≡ value (part o 64 (bits rest)) = omega (arith, c.word_at.ensures) in
    word_front c.word_at.result (bits rest) o 64 count small (omega arith) long whole
    ∙ ap value (part-rest bytes at start o count (sym c.byte_of-at.ensures.place))
    ∙ ap value (view_bits bytes seen s.offset s.len c.args.from count start (sym c.self.view_is) (omega (arith, size, inside)) refl)

pub returns : goal.returns
returns c count small inside =
    let s = c.self.inside in
    let bytes = s.bytes.now in
    let seen = c.args.self.now in
    let at = c.byte_of-at.result.0 in
    let o = c.byte_of-at.result.1 in
    let start = s.offset + c.args.from in
    let size = length-view bytes seen s.offset s.len (sym c.self.view_is) c.self.invariant.1 in
    let rest = take (length bytes - at) (drop at bytes) in
    let zeros = replicate (64 - 8 * length rest) false in
    let many : length rest ≡ length bytes - at = omega (arith, length-take (length bytes - at) (drop at bytes), length-drop at bytes) in
    let within : o + count ≤ length (bits rest) = omega (arith, size, inside, many, c.byte_of-at.ensures.place, c.self.invariant, length-bits bytes, length-bits rest) in
    let short : o + count ≤ 64 = omega (arith, within, many, c.if-rest-gt8.false, length-bits rest) in
    word_middle c.last_word.result o count short
    ∙ ap (λ l. value (part o count l)) c.last_word.ensures
    ∙ ap value (part-append_left (bits rest) zeros o count within)
    ∙ ap value (part-rest bytes at start o count (sym c.byte_of-at.ensures.place))
    ∙ ap value (view_bits bytes seen s.offset s.len c.args.from count start (sym c.self.view_is) (omega (arith, size, inside)) refl)
