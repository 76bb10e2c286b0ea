use Rattle.std.proofs.Common.{refl}
use Rattle.etcs_group.proofs.Positions.{FirstGive-none, FirstGive-more}
use Rattle.etcs_group.proofs.assembly.Assembly.packets.Goals as goal

pub loop-position-init : goal.loop-position-init
loop-position-init c = rw c.new-packets.ensures.items (FirstGive-none c.args.self.now)

pub loop-position-preserved : goal.loop-position-preserved
loop-position-preserved c =
    rw c.in_ok-push_all.ensures (FirstGive-more c.args.self.now c.loop-position.position _ c.loop-position.packets.items c.given.result.now refl c.loop-position.invariant c.given.ensures)
