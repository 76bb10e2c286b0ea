use Rattle.std.proofs.Common.{◌/◌, arith}
use Rattle.etcs_packet_text.proofs.Decimals.{some_digits, length_thousands, two_more, two_more_at}
use Rattle.etcs_packet_text.proofs.page.place.+put_longer.Goals as goal

pub put_short-requires-clause-room : goal.put_short-requires-clause-room
put_short-requires-clause-room t c = omega (arith, some_digits c.args.number c.if-number-lt1000.true, c.requires)

pub put_longer-end-requires : goal.put_longer-end-requires
put_longer-end-requires t c = (omega arith, omega (arith, length_thousands c.args.number (omega arith) (omega arith), c.requires))

pub put_two_digits-end-requires-clause-room : goal.put_two_digits-end-requires-clause-room
put_two_digits-end-requires-clause-room t c = omega (arith, length_thousands c.args.number (omega arith) (omega arith), c.put_longer-end.ensures.end, c.put_longer-end.ensures.len, c.requires)

pub put_two_digits-requires-clause-room : goal.put_two_digits-requires-clause-room
put_two_digits-requires-clause-room t c = omega (arith, length_thousands c.args.number (omega arith) (omega arith), c.put_longer-end.ensures.end, c.put_longer-end.ensures.len, c.put_two_digits-end.ensures.end, c.put_two_digits-end.ensures.len, c.requires)

pub returns-clause-end : goal.returns-clause-end
returns-clause-end t c = omega (arith, length_thousands c.args.number (omega arith) (omega arith), c.put_longer-end.ensures.end, c.put_two_digits-end.ensures.end, c.put_two_digits.ensures.end)

pub returns-clause-bytes : goal.returns-clause-bytes
returns-clause-bytes t c = two_more c.args.number c.args.at c.args.place.now c.put_two_digits-end.new.place c.put_two_digits-end.result c.put_two_digits.result c.put_two_digits.new.place (omega arith) (omega arith)
    (two_more_at (c.args.number / 100) c.args.at c.args.place.now c.put_longer-end.new.place c.put_longer-end.result c.put_two_digits-end.result c.put_two_digits-end.new.place (omega arith) (omega arith) (c.args.number / 10000) (omega arith) c.put_longer-end.ensures.bytes c.put_two_digits-end.ensures.bytes)
    c.put_two_digits.ensures.bytes
