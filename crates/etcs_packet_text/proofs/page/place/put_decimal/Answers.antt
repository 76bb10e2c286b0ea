use Rattle.std.proofs.Common.{arith}
use Rattle.etcs_packet_text.proofs.Decimals.{digit_put, length_one, some_digits}
use Rattle.etcs_packet_text.proofs.page.place.put_decimal.Goals as goal

pub returns-then-number-lt10-clause-end : goal.returns-then-number-lt10-clause-end
returns-then-number-lt10-clause-end c = omega (arith, length_one c.args.number c.if-number-lt10.true)

pub returns-then-number-lt10-clause-bytes : goal.returns-then-number-lt10-clause-bytes
returns-then-number-lt10-clause-bytes c = digit_put c.args.number c.args.at c.args.place.now c.if-number-lt10.true (omega (arith, c.requires))

pub put_short-requires-clause-room : goal.put_short-requires-clause-room
put_short-requires-clause-room c = omega (arith, some_digits c.args.number c.if-number-lt1000.true, c.requires)
