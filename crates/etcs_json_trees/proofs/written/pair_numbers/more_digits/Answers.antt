use Rattle.std.proofs.Common.{◌≡◌, ◌+◌, ◌*◌, drop, refl, arith}
use Rattle.etcs_json_trees.proofs.DecimalTexts.{first_room, one_there, room_more, room_for_one}
use Rattle.etcs_json_trees.proofs.NumberTexts.{more_digit}
use Rattle.etcs_json_trees.proofs.written.pair_numbers.more_digits.Goals as goal

pub loop-place-init : goal.loop-place-init
loop-place-init c = (omega arith, omega arith, omega arith, first_room c.args.first c.args.at c.requires.digit, one_there c.args.first _ _ c.requires.digit c.requires.first)

pub returns-then-first-eq0-clause-text : goal.returns-then-first-eq0-clause-text
returns-then-first-eq0-clause-text c = one_there c.args.first _ _ c.requires.digit c.requires.first

pub loop-place-preserved : goal.loop-place-preserved
loop-place-preserved c =
    let (before, inside, some, small, text) = c.loop-place.invariant in
    let place = c.loop-place.place in
    let n = c.loop-place.number in
    let d = c.digit_at-digit.result in
    let room = room_for_one n c.args.at place c.args.most (omega arith) c.requires.most small in
    let is : 10 * n + d ≡ n * 10 + d = omega arith in (
      omega (arith, before),
      omega arith,
      omega (arith, some),
      room_more n d c.args.at place before (omega arith) small,
      more_digit _ (drop place c.args.text.now) _ n _ (48 + d) d text (c.digit_at-digit.ensures.digit (omega arith)) some (omega arith) refl is (omega (arith, room)),
    )
