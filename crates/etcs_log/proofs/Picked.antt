-- Which items are picked.
use Rattle.std.proofs.Common.{◌≡◌, ◌||◌, Bool, List, [], ◌∷◌, map, refl, ap}
use Rattle.std.specs.List.{list_any}
use Rattle.etcs_packets.specs.PacketValues.{Form, form, nid_of}
use Rattle.etcs_tables.specs.declared.row.Way.{Way}
use Rattle.etcs_tables.specs.declared.row.Way.TheVariants.{ToTrain, ToTrack}
use Rattle.etcs_messages.specs.Kinds.{HeadOf, OwnOf}
use Rattle.etcs_messages.specs.Messages.{message_value}
use Rattle.etcs_messages.specs.Readings.{nid_of_message, packets_of}
use Rattle.etcs_messages.specs.declared.message.Content.{Content}
use Rattle.etcs_messages.specs.declared.message.Content.TheVariants.{Typed, Kept}
use Rattle.etcs_radio.specs.Bodies.{radio_head, radio_body}
use Rattle.etcs_radio.specs.Messages as radio
use Rattle.etcs_train.specs.Bodies.{train_head, train_body}
use Rattle.etcs_train.specs.Messages as train
use Rattle.etcs_track.specs.TrackPackets.{track_form}
use Rattle.etcs_text.specs.Entries.{entry_value, of_message}
use Rattle.etcs_text.specs.declared.entry.Entry.TheVariants as entry
use Rattle.etcs_log.specs.declared.job.LogJob.{LogJob}
use Rattle.etcs_log.specs.Numbers.{has_number}
use Rattle.etcs_log.specs.Picks.{is_picked}

pub list_any-map : {X Y : Type 0} (p : Y → Bool) (f : X → Y) (xs : List X) → list_any (λ x. p (f x)) xs ≡ list_any p (map f xs)
list_any-map p f [] = refl
list_any-map p f (x ∷ xs) = ap (λ (b : Bool). p (f x) || b) (list_any-map p f xs)

-- a message of either way
picked_message : {H B P : Type 0} (way : Way) (k : HeadOf H) (o : OwnOf B) (form : P → Form) (job : LogJob) (m : Content H B P) → has_number job.messages (nid_of_message o m) || list_any (λ p. has_number job.packets (nid_of (form p).value)) (packets_of m) ≡ is_picked job (of_message way (message_value way k o form m))
picked_message way k o form job (Typed head body ps padding) = ap (λ (b : Bool). has_number job.messages (o.nid body) || b) (list_any-map (λ v. has_number job.packets (nid_of v)) (λ p. (form p).value) ps)
picked_message way k o form job (Kept nid b) = refl

pub picked_radio : (job : LogJob) (m : radio.Content) → has_number job.messages (nid_of_message radio_body m) || list_any (λ p. has_number job.packets (nid_of (form p).value)) (packets_of m) ≡ is_picked job (entry_value (entry.Message m))
picked_radio job m = picked_message ToTrain radio_head radio_body form job m

pub picked_train : (job : LogJob) (m : train.Content) → has_number job.messages (nid_of_message train_body m) || list_any (λ p. has_number job.packets (nid_of (track_form p).value)) (packets_of m) ≡ is_picked job (entry_value (entry.Train m))
picked_train job m = picked_message ToTrack train_head train_body track_form job m
