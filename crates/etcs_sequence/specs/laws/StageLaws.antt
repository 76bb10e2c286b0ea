-- What is left of packets, by their stage.
use Rattle.std.proofs.Common.{◌≡◌, ℕ, true, false, Some, None}
use Rattle.std.specs.Prelude.{IsTrue, Option, is_some, ◌&&◌}
use Rattle.std.proofs.lemmas.Bool.{and_parts}
use Rattle.etcs_vars.specs.declared.var.Var.{Var}
use Rattle.etcs_rows.specs.declared.frames.Carrier.{Carrier}
use Rattle.etcs_tables.specs.Rows.{row_to}
use Rattle.etcs_tables.specs.Frames.{is_direction}
use Rattle.etcs_rows.specs.Places.{first_variable}
use Rattle.etcs_rows.specs.Frames.{way_of}
use Rattle.etcs_sequence.specs.declared.stage.Stage.{Stage}
use Rattle.etcs_sequence.specs.Lefts.{next_of, is_stage, is_closed}
use Rattle.etcs_sequence.specs.declared.stage.Stage.TheVariants as stage

none_first : (o : Option Var) → is_some o ≡ true → o ≡ None → ⊥
none_first None h e = absurd cc
none_first (Some v) h e = absurd cc

-- packets that aren't closed continue
pub open_next : (c : Carrier) (room : ℕ) (s : Stage) → IsTrue (is_stage c room s) → is_closed s ≡ false → next_of s ≡ None → ⊥
open_next c room stage.Number k o e = absurd cc
open_next c room stage.Marker k o e = absurd cc
open_next c room (stage.Direction nid) k o e = absurd cc
open_next c room (stage.Length nid dir) k o e = absurd cc
open_next c room (stage.Row nid dir row) k o e =
    let some = and_parts (is_some (row_to (way_of c) nid)) (is_direction (way_of c) dir && is_some (first_variable row.place)) k in
    none_first (first_variable row.place) (and_parts (is_direction (way_of c) dir) (is_some (first_variable row.place)) some.1).1 e
open_next c room (stage.Kept nid dir left) k o e = absurd cc
open_next c room stage.Closed k o e = absurd cc
