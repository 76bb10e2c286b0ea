-- The numbers before a message's packets (SUBSET-026, chapter 8).
use Rattle.std.specs.Prelude.{ℕ, ◌≤◌, Bool, List, length, take, drop}
use Rattle.etcs_tables.specs.declared.row.Way.{Way}
use Rattle.etcs_tables.specs.Headers.{head_row}
use Rattle.etcs_sequence.specs.Fronts.{FrontAt}
use Rattle.etcs_messages.specs.Kinds.{IsHeadNumbers, IsOwnNumbers}
use Rattle.etcs_messages.specs.Lefts.{front_vars, front_bits}

-- these bits begin with those of a message of this number, of which its variables from L_MESSAGE to its packets have
-- these numbers, which are a head's and then a body's
pub record WholeFront (way : Way) (nid : ℕ) (xs : List Bool) (f : List ℕ) : Type 0 where
  pub there : length (head_row way) ≤ length f
  pub head : IsHeadNumbers way (take (length (head_row way)) f)
  pub own : IsOwnNumbers way nid (drop (length (head_row way)) f)
  pub front : FrontAt (front_vars way nid) xs 18 f (front_bits (front_vars way nid))
