-- Messages to the track (SUBSET-026, chapter 8): those of etcs_messages that go to the track.
use Rattle.etcs_vars.specs.Reading.{Reading}
use Rattle.etcs_tables.specs.declared.row.Way.TheVariants.{ToTrack}
use Rattle.etcs_messages.specs.Messages as messages
use Rattle.etcs_messages.specs.Messages.{MessageValue}
use Rattle.etcs_messages.specs.declared.message.Content as either
use Rattle.etcs_track.specs.declared.train_packet.TrainPacket.{TrainPacket}
use Rattle.etcs_track.specs.TrackPackets.{track_form}
use Rattle.etcs_train.specs.declared.body.TrainBody.{TrainBody}
use Rattle.etcs_train.specs.declared.body.TrainHead.{TrainHead}
use Rattle.etcs_train.specs.Bodies.{train_head, train_body}

-- what a message to the track holds: head, body, packets and PADDING, or number and kept bits
abbrev pub Content : Type 0
Content = either.Content TrainHead TrainBody TrainPacket

-- the readings of all messages to the track
abbrev pub MessageLanguage : Reading → Type 0
MessageLanguage r = messages.MessageLanguage ToTrack r

-- what a message to the track stands for
abbrev pub message_value : Content → MessageValue
message_value m = messages.message_value ToTrack train_head train_body track_form m

-- what each message to the track keeps: no fault applies, and its numbers fit the types that hold them
abbrev pub IsMessage : Content → Type 0
IsMessage m = messages.IsMessage ToTrack train_head train_body track_form m
