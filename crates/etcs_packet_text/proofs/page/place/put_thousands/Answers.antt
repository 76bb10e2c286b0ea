use Rattle.std.proofs.Common.{◌/◌, arith}
use Rattle.etcs_packet_text.proofs.Decimals.{some_digits, length_hundreds, two_more}
use Rattle.etcs_packet_text.proofs.page.place.put_thousands.Goals as goal

pub put_short-end-requires-clause-room : goal.put_short-end-requires-clause-room
put_short-end-requires-clause-room c = omega (arith, length_hundreds c.args.number (omega arith) (omega arith), some_digits (c.args.number / 100) (omega arith), c.requires.room)

pub put_two_digits-requires-clause-room : goal.put_two_digits-requires-clause-room
put_two_digits-requires-clause-room c = omega (arith, length_hundreds c.args.number (omega arith) (omega arith), c.put_short-end.ensures.end, c.put_short-end.ensures.len, c.requires.room)

pub returns-clause-end : goal.returns-clause-end
returns-clause-end c = omega (arith, length_hundreds c.args.number (omega arith) (omega arith), c.put_short-end.ensures.end, c.put_two_digits.ensures.end)

pub returns-clause-bytes : goal.returns-clause-bytes
returns-clause-bytes c = two_more c.args.number c.args.at c.args.place.now c.put_short-end.new.place c.put_short-end.result c.put_two_digits.result c.put_two_digits.new.place (omega arith) (omega arith) c.put_short-end.ensures.bytes c.put_two_digits.ensures.bytes
