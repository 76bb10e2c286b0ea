use Rattle.std.proofs.Common.{take}
use Rattle.etcs_bits.specs.Bits.{bits}
use Rattle.etcs_tables.specs.declared.row.Way.TheVariants.{ToTrain, ToTrack}
use Rattle.etcs_telegram.specs.declared.size.Size.TheVariants as size
use Rattle.etcs_telegram.specs.Telegrams.{TelegramLanguage}
use Rattle.etcs_messages.specs.Messages.{MessageLanguage}
use Rattle.etcs_text.specs.declared.entry.Kind.TheVariants.{Long, Short, Radio, Train}
use Rattle.etcs_text.proofs.ItemKinds.{same_telegrams, same_messages}
use Rattle.etcs_text.proofs.Refusals.{found_of}
use Rattle.etcs_text.proofs.refused.refusal_at.Goals as goal

pub returns-in-Long : goal.returns-in-Long
returns-in-Long c = rw c.in-Long.is (found_of (TelegramLanguage size.Long) Long (same_telegrams size.Long) (bits c.first-bytes.result.now) (take 8184 (bits c.args.bytes.now)) c.first-bytes.ensures.bits c.refusal_at.result c.refusal_at.ensures)

pub returns-in-Short : goal.returns-in-Short
returns-in-Short c = rw c.in-Short.is (found_of (TelegramLanguage size.Short) Short (same_telegrams size.Short) (bits c.first-bytes.result.now) (take 8184 (bits c.args.bytes.now)) c.first-bytes.ensures.bits c.refusal_at-in-Short.result c.refusal_at-in-Short.ensures)

pub returns-in-Radio : goal.returns-in-Radio
returns-in-Radio c = rw c.in-Radio.is (found_of (MessageLanguage ToTrain) Radio (same_messages ToTrain) (bits c.first-bytes.result.now) (take 8184 (bits c.args.bytes.now)) c.first-bytes.ensures.bits c.radio_refusal_at.result c.radio_refusal_at.ensures)

pub returns-in-Train : goal.returns-in-Train
returns-in-Train c = rw c.in-Train.is (found_of (MessageLanguage ToTrack) Train (same_messages ToTrack) (bits c.first-bytes.result.now) (take 8184 (bits c.args.bytes.now)) c.first-bytes.ensures.bits c.train_refusal_at.result c.train_refusal_at.ensures)
