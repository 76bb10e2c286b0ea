use Rattle.etcs_group.specs.Messages.{FirstGive}
use Rattle.etcs_group.proofs.assembly.Assembly.packets.Given as goal

abbrev pub invariant-loop-position : goal.invariant-loop-position
invariant-loop-position l = FirstGive l.self l.position l.packets.items
