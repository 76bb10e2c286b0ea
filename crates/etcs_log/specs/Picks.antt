-- Which items are written as good lines.
use Rattle.std.specs.Prelude.{ℕ, Bool, true, ◌||◌, if◌then◌else◌, List, []}
use Rattle.std.specs.List.{list_any}
use Rattle.etcs_packets.specs.PacketValues.{PacketValue, nid_of}
use Rattle.etcs_messages.specs.Messages.{MessageValue, typed_message, kept_message}
use Rattle.etcs_text.specs.Entries.{EntryValue, of_telegram, of_message}
use Rattle.etcs_log.specs.declared.job.LogJob.{LogJob}
use Rattle.etcs_log.specs.declared.numbers.NumberSet.{NumberSet}
use Rattle.etcs_log.specs.Numbers.{has_number}

-- NID_MESSAGE of a message
abbrev pub message_number : MessageValue → ℕ
message_number (typed_message nid head body vs padding) = nid
message_number (kept_message nid b) = nid

-- the packets of a message; none of one that is kept
abbrev pub message_packets : MessageValue → List PacketValue
message_packets (typed_message nid head body vs padding) = vs
message_packets (kept_message nid b) = []

-- one of the packets is of a number of the set
abbrev pub has_packet : NumberSet → List PacketValue → Bool
has_packet set vs = list_any (λ v. has_number set (nid_of v)) vs

-- the item has a packet, or is a message, of a number that is asked for
abbrev pub is_picked : LogJob → EntryValue → Bool
is_picked job (of_telegram t) = has_packet job.packets t.packets
is_picked job (of_message way m) = has_number job.messages (message_number m) || has_packet job.packets (message_packets m)

-- not all items are written
abbrev pub picks_some : LogJob → Bool
picks_some job = job.packets.any || job.messages.any

-- the item is written
abbrev pub picks : LogJob → EntryValue → Bool
picks job e = if picks_some job then is_picked job e else true
