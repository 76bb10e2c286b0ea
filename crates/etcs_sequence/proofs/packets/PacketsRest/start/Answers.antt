use Rattle.std.proofs.Common.{[], refl}
use Rattle.std.proofs.lemmas.List.Elements.{All-nil}
use Rattle.std.proofs.Math.Logic.{∥∥₁_map}
use Rattle.etcs_sequence.proofs.packets.PacketsRest.start.Goals as goal

pub invariant_of-self : goal.invariant_of-self
invariant_of-self g c = record { way = rw c.new-self.ensures.carrier c.requires.way; held = ∥∥₁_map c.requires.none (λ h _. ([], ([], [], [], [], h, All-nil _, rw c.new-self.ensures.carrier c.new-self.ensures.here, refl))) }
