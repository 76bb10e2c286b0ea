use Rattle.std.proofs.Common.{take}
use Rattle.etcs_bits.specs.Bits.{bits}
use Rattle.etcs_vars.specs.Reading.{readings_of}
use Rattle.etcs_tables.specs.declared.row.Way.TheVariants.{ToTrain, ToTrack}
use Rattle.etcs_telegram.specs.declared.size.Size.TheVariants as size
use Rattle.etcs_telegram.specs.Telegrams.{TelegramLanguage}
use Rattle.etcs_telegram.proofs.Examples.{some_telegram}
use Rattle.etcs_messages.specs.Messages.{MessageLanguage}
use Rattle.etcs_messages.proofs.Bytes.{some_message}
use Rattle.etcs_text.specs.declared.entry.Kind.TheVariants.{Long, Short, Radio, Train}
use Rattle.etcs_text.specs.Entries.{EntryReads}
use Rattle.etcs_text.proofs.Accounting.{of_kind}
use Rattle.etcs_text.proofs.ItemKinds.{same_telegrams, same_messages}
use Rattle.etcs_text.proofs.account.Account.read.Goals as goal

pub account_of-requires : goal.account_of-requires
account_of-requires c = record { goes = some_telegram size.Long; short = c.first-bytes.ensures.short }

pub account_of-requires-in-Short : goal.account_of-requires-in-Short
account_of-requires-in-Short c = record { goes = some_telegram size.Short; short = c.first-bytes.ensures.short }

pub account_of-requires-in-Radio : goal.account_of-requires-in-Radio
account_of-requires-in-Radio c = record { goes = some_message ToTrain; short = c.first-bytes.ensures.short }

pub account_of-requires-in-Train : goal.account_of-requires-in-Train
account_of-requires-in-Train c = record { goes = some_message ToTrack; short = c.first-bytes.ensures.short }

pub returns-in-Long : goal.returns-in-Long
returns-in-Long c = rw c.in-Long.is (of_kind (TelegramLanguage size.Long) (readings_of (EntryReads Long)) (same_telegrams size.Long) (bits c.first-bytes.result.now) (take 8184 (bits c.args.bytes.now)) c.first-bytes.ensures.bits c.account_of.result c.account_of.ensures)

pub returns-in-Short : goal.returns-in-Short
returns-in-Short c = rw c.in-Short.is (of_kind (TelegramLanguage size.Short) (readings_of (EntryReads Short)) (same_telegrams size.Short) (bits c.first-bytes.result.now) (take 8184 (bits c.args.bytes.now)) c.first-bytes.ensures.bits c.account_of-in-Short.result c.account_of-in-Short.ensures)

pub returns-in-Radio : goal.returns-in-Radio
returns-in-Radio c = rw c.in-Radio.is (of_kind (MessageLanguage ToTrain) (readings_of (EntryReads Radio)) (same_messages ToTrain) (bits c.first-bytes.result.now) (take 8184 (bits c.args.bytes.now)) c.first-bytes.ensures.bits c.account_of-in-Radio.result c.account_of-in-Radio.ensures)

pub returns-in-Train : goal.returns-in-Train
returns-in-Train c = rw c.in-Train.is (of_kind (MessageLanguage ToTrack) (readings_of (EntryReads Train)) (same_messages ToTrack) (bits c.first-bytes.result.now) (take 8184 (bits c.args.bytes.now)) c.first-bytes.ensures.bits c.account_of-in-Train.result c.account_of-in-Train.ensures)
