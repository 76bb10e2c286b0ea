-- By no variables, and by some and others after them.
use Rattle.std.specs.Prelude.{[], ◌++◌}
use Rattle.etcs_vars.specs.Reading.{Reading}
use Rattle.etcs_sequence.specs.declared.state.PacketsState.{PacketsState}
use Rattle.etcs_sequence.specs.AtOnce.{Holds}
use Rattle.etcs_sequence.specs.Leaps.{Follows}
use Rattle.etcs_sequence.specs.laws.LeftLaws.{moved_none, moved_along, held_none, held_along}

pub follows_none : (s : PacketsState) (H : Holds) → Follows s H [] s H
follows_none s H = (moved_none s.carrier s.room s.stage, held_none s.carrier s.stage H)

pub follows_along : (s t u : PacketsState) (H I J : Holds) (p q : Reading) → Follows s H p t I → Follows t I q u J → Follows s H (p ++ q) u J
follows_along s t u H I J p q h k = (
  moved_along s.carrier s.room s.stage p t.carrier t.room t.stage q u.carrier u.room u.stage h.0 k.0,
  held_along s.carrier s.stage H p t.carrier t.stage I q u.carrier u.stage J h.1 k.1,
)
