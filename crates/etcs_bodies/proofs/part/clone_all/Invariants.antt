use Rattle.std.proofs.Common.{◌≡◌, take}
use Rattle.etcs_bodies.proofs.part.clone_all.Given as goal

abbrev pub invariant-loop-part : goal.invariant-loop-part
invariant-loop-part g l = l.copies.items ≡ take l.part-index l.parts
