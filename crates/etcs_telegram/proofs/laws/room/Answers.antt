use Rattle.etcs_telegram.proofs.Rooms.{room_rule}
use Rattle.etcs_telegram.proofs.laws.room.Goals as goal

pub returns : goal.returns
returns c = room_rule
