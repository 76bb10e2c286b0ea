use Rattle.std.proofs.Common.{◌≡◌, ◌∷◌, [], ◌==◌, ◌&&◌, refl}
use Rattle.std.specs.Prelude.{IsTrue, nat_lt}
use Rattle.std.proofs.lemmas.Bool.{ltb-true}
use Rattle.etcs_vars.specs.declared.var.Var.TheVariants.{OTHER_DATA}
use Rattle.etcs_vars.specs.Reading.{kept}
use Rattle.etcs_tables.specs.Frames.{is_kept, is_direction}
use Rattle.etcs_rows.specs.Frames.{way_of}
use Rattle.etcs_rows.proofs.PlaceLemmas.{and_both}
use Rattle.etcs_sequence.specs.Contents.{PacketsIn}
use Rattle.etcs_sequence.specs.Lefts.{is_stage}
use Rattle.etcs_sequence.proofs.LeftBodies.{kept_bit}
use Rattle.etcs_sequence.proofs.state.PacketsState.pass.Goals as goal
use Rattle.etcs_sequence.proofs.state.PacketsState.pass.Goals.{After-pass_bits}

-- the bit is the number of OTHER_DATA
one_bit : (c : After-pass_bits) → kept OTHER_DATA ((c.args.number == 1) ∷ []) ≡ (c.args.var, c.args.number) ∷ []
one_bit c =
    let s = c.args.self.now in
    let k = c.in-Kept in
    let stands : IsTrue (is_stage s.carrier s.room s.stage) = s.stands in
    let pos = (and_both (is_direction (way_of s.carrier) k.dir) (nat_lt 0 k.left) (and_both (is_kept (way_of s.carrier) k.nid) (is_direction (way_of s.carrier) k.dir && nat_lt 0 k.left) (rw k.is at stands)).1).1 in
    let next = rw k.is at c.requires.next in
    let same : OTHER_DATA ≡ c.args.var = cc in
    let goes = rw (k.is, ← same) at c.requires.goes in
    rw (← same) (kept_bit k.left c.args.number (PacketsIn s.carrier s.room) (ltb-true 0 k.left pos) goes)

pub returns-in-Kept-clause-moved : goal.returns-in-Kept-clause-moved
returns-in-Kept-clause-moved c = rw (← one_bit c) (c.pass_bits.ensures.moved ((c.args.number == 1) ∷ []) refl)

pub returns-in-Kept-clause-here : goal.returns-in-Kept-clause-here
returns-in-Kept-clause-here c f k h here =
    let after = c.pass_bits.ensures.here ((c.args.number == 1) ∷ []) refl f k h here in
    rw (c.in-Kept.is, ← one_bit c) after
