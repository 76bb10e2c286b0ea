use Rattle.std.proofs.Common.{◌∙◌, ap, sym}
use Rattle.etcs_packets.specs.PacketValues.{form, nid_of}
use Rattle.etcs_text.specs.declared.entry.Entry.{Entry}
use Rattle.etcs_text.specs.Entries.{entry_value}
use Rattle.etcs_log.specs.Numbers.{has_number}
use Rattle.etcs_log.specs.Picks.{is_picked}
use Rattle.etcs_log.proofs.Picked.{list_any-map, picked_radio, picked_train}
use Rattle.etcs_log.proofs.job.LogJob.is_picked.Goals as goal

pub returns-in-Telegram : goal.returns-in-Telegram
returns-in-Telegram c =
    let job = c.args.self.now in
    rw c.packets.ensures at c.has_packet.ensures ∙ list_any-map (λ v. has_number job.packets (nid_of v)) (λ p. (form p).value) _ ∙ ap (λ (e : Entry). is_picked job (entry_value e)) (sym c.in-Telegram.is)

pub returns-in-Message : goal.returns-in-Message
returns-in-Message c =
    let job = c.args.self.now in
    rw c.packets-in-Message.ensures at (rw c.nid.ensures at c.is_message_picked.ensures) ∙ picked_radio job c.in-Message.message ∙ ap (λ (e : Entry). is_picked job (entry_value e)) (sym c.in-Message.is)

pub returns-in-Train : goal.returns-in-Train
returns-in-Train c =
    let job = c.args.self.now in
    rw c.packets-in-Train.ensures at (rw c.nid-in-Train.ensures at c.is_message_picked-in-Train.ensures) ∙ picked_train job c.in-Train.message ∙ ap (λ (e : Entry). is_picked job (entry_value e)) (sym c.in-Train.is)
