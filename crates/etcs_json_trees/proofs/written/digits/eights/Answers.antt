use Rattle.std.proofs.Common.{◌≡◌, ◌+◌, ◌*◌, ◌%◌, length, refl, arith}
use Rattle.etcs_json_trees.proofs.DigitBits.{more_eight, no_eights, room_for_eight, small_more, zero_small}
use Rattle.etcs_json_trees.proofs.written.digits.eights.Goals as goal

pub loop-eight-init : goal.loop-eight-init
loop-eight-init c = (omega arith, refl, zero_small c.args.digits.now, no_eights c.args.digits.now)

pub loop-eight-preserved : goal.loop-eight-preserved
loop-eight-preserved c =
    let (inside, rest, small, text) = c.loop-eight.invariant in
    let split = c.in-Some.ensures.cases in
    let byte = c.in_ok-number.ensures in
    let n = c.loop-eight.number in
    let b = c.in_ok-number.field-0 in
    let digits = c.args.digits.now in
    let left = c.loop-eight.left.now in
    let more = c.in-Some.more.now in
    let fewer : length more + 8 ≡ length left = omega (arith, split.2) in
    let room = room_for_eight (length digits) (length left) n c.requires (omega (arith, fewer)) inside small in
    let is : n * 256 % 18446744073709551616 + b ≡ n * 256 + b = omega (arith, room) in (
      omega (arith, inside, fewer),
      omega (arith, rest, fewer),
      small_more (length digits) (length left) (length more) n _ b fewer inside small byte.0 is,
      more_eight digits left c.in-Some.eight.now more n _ b fewer inside text split.0 split.1 byte.0 byte.1 is,
    )
