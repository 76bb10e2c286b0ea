use Rattle.std.proofs.Common.{take, All}
use Rattle.etcs_bodies.proofs.part.hold_all.Given as goal

abbrev pub invariant-loop-part : goal.invariant-loop-part
invariant-loop-part g l = All g.P.Part.is_part (take l.part-index l.parts)
