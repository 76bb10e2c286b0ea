use Rattle.std.proofs.Common.{◌+◌, ◌-◌, ◌*◌, ◌/◌, ◌%◌, length, drop, ap, ◌∙◌, arith}
use Rattle.std.proofs.lemmas.List.{length-take, length-drop}
use borrow.Rule.Slice.PartMut.{put_mid}
use Rattle.etcs_bits.specs.Bits.{bits, part, replaced}
use Rattle.etcs_bits.proofs.Positions.{length-bits}
use Rattle.etcs_bits.proofs.Copies.{part_length, words_after, written_by_three}
use Rattle.etcs_bits.proofs.inner.write_slice.Goals as goal

pub slice_bounds-copy_words-count : goal.slice_bounds-copy_words-count
slice_bounds-copy_words-count c =
    let front = (8 - c.args.start % 8) % 8 in
    let same = part_length c.args.bytes.now c.write_part-2.new.bytes (c.args.start + 0) 0 (front - 0) c.args.slice.now (omega arith) (omega arith) c.write_part-2.ensures in
    omega (arith, same, length-bits c.args.bytes.now)

pub slice_bounds-copy_words-start : goal.slice_bounds-copy_words-start
slice_bounds-copy_words-start c =
    let front = (8 - c.args.start % 8) % 8 in
    let same = part_length c.args.bytes.now c.write_part-2.new.bytes (c.args.start + 0) 0 (front - 0) c.args.slice.now (omega arith) (omega arith) c.write_part-2.ensures in
    omega (arith, same, length-bits c.args.bytes.now)

pub copy_words-requires-clause-room : goal.copy_words-requires-clause-room
copy_words-requires-clause-room c =
    let front = (8 - c.args.start % 8) % 8 in
    let one = c.write_part-2.new.bytes in
    let at = c.byte_of-at.result.0 in
    let same = part_length c.args.bytes.now one (c.args.start + 0) 0 (front - 0) c.args.slice.now (omega arith) (omega arith) c.write_part-2.ensures in
    omega (arith, same, length-bits c.args.bytes.now, length-take (length one - at) (drop at one), length-drop at one)

pub write_part-requires-3-clause-inside : goal.write_part-requires-3-clause-inside
write_part-requires-3-clause-inside c =
    let front = (8 - c.args.start % 8) % 8 in
    let words = 64 * ((c.len-2.result - front - 8) / 64) in
    let one = c.write_part-2.new.bytes in
    let at = c.byte_of-at.result.0 in
    let beyond = words_after c.args.bytes.now one c.copy_words.new.to c.args.slice.now c.args.start front words at (omega arith) (omega arith) (omega arith) c.write_part-2.ensures c.copy_words.ensures in
    omega (arith, beyond.1, length-bits c.args.bytes.now, length-bits (put_mid at (length one - at) one c.copy_words.new.to))

pub returns : goal.returns
returns c =
    let seen = c.args.slice.now in
    let front = (8 - c.args.start % 8) % 8 in
    let words = 64 * ((c.len-2.result - front - 8) / 64) in
    let one = c.write_part-2.new.bytes in
    let at = c.byte_of-at.result.0 in
    let two = put_mid at (length one - at) one c.copy_words.new.to in
    let beyond = words_after c.args.bytes.now one c.copy_words.new.to seen c.args.start front words at (omega arith) (omega arith) (omega arith) c.write_part-2.ensures c.copy_words.ensures in
    c.write_part-3.ensures ∙ ap (λ k. replaced (c.args.start + (front + words)) (part (front + words) (k - (front + words)) seen) (bits two)) c.len-3.ensures ∙ written_by_three seen (bits c.args.bytes.now) (bits one) (bits two) c.args.start front words (omega arith) (omega arith) c.write_part-2.ensures beyond.0
