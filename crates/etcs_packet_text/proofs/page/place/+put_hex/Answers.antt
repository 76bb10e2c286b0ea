use Rattle.std.proofs.Common.{◌-◌, take, arith}
use Rattle.etcs_packet_text.proofs.NumberTexts.{hex_more}
use Rattle.etcs_packet_text.proofs.page.place.+put_hex.Goals as goal

pub returns-clause-bytes : goal.returns-clause-bytes
returns-clause-bytes t c =
    hex_more (c.args.count - 1) c.args.count c.args.number c.hex_digit_of.result (take c.args.at c.args.place.now) _ _ (omega arith) c.put_hex-end.ensures.bytes c.hex_digit_of.ensures c.put_bytes.ensures.bytes
