use Rattle.etcs_telegram.proofs.RestStart.{new_left}
use Rattle.etcs_telegram.proofs.rest.TelegramRest.new.Goals as goal

pub returns-clause-left : goal.returns-clause-left
returns-clause-left g c = new_left c.args.size c.new-2.result.left (rw c.packet_room.ensures at c.new-2.ensures.ahead) (rw c.packet_room.ensures at c.new-2.ensures.left)
