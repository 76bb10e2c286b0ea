use Rattle.etcs_telegram.specs.Telegrams.{telegram_value}
use Rattle.etcs_telegram.proofs.Appending.{appended}
use Rattle.etcs_telegram.proofs.encode.append_telegram.Goals as goal

pub returns : goal.returns
returns c =
    let t = telegram_value c.args.telegram.now in
    appended t c.args.out.now c.append_variables.new.out c.append_all.new.out c.put.new.self c.put_slice.new.self c.put-2.new.self
    (rw c.header.ensures at c.append_variables.ensures)
    (rw c.packets.ensures at c.append_all.ensures)
    (rw c.from.ensures at c.put.ensures)
    (rw c.fill.ensures at c.put_slice.ensures)
    (rw (c.pad_bits.ensures, c.size.ensures) at c.put-2.ensures)
