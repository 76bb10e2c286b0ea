use Rattle.etcs_telegram.specs.Telegrams.{telegram_value}
use Rattle.etcs_text.specs.Entries.{of_telegram}
use Rattle.etcs_text.proofs.Encoding.{appended_ok}
use Rattle.etcs_text.proofs.encodings.append_telegram.Goals as goal

pub returns-clause-ok : goal.returns-clause-ok
returns-clause-ok c =
    appended_ok c.encode-appended.result (of_telegram (telegram_value c.args.telegram.now)) c.args.out.now.items c.encode-appended.new.out.items (rw c.as_slice.ensures.value at c.are_bytes.ensures) (rw c.as_slice-2.ensures.value at c.are_bytes-2.ensures) c.encode-appended.ensures.ok
