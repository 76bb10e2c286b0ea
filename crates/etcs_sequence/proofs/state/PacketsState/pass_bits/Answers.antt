use Rattle.std.proofs.Common.{◌≡◌, ◌+◌, ◌-◌, ◌++◌, ◌&&◌, length, refl, arith, length-append}
use Rattle.std.specs.Prelude.{IsTrue, nat_lt}
use Rattle.etcs_tables.specs.Frames.{is_kept, is_direction}
use Rattle.etcs_rows.specs.Frames.{way_of}
use Rattle.etcs_rows.proofs.PlaceLemmas.{and_both}
use Rattle.etcs_vars.specs.declared.var.Var.TheVariants.{OTHER_DATA}
use Rattle.etcs_vars.specs.Reading.{kept}
use Rattle.etcs_sequence.specs.declared.stage.Stage.TheVariants.{Kept}
use Rattle.etcs_sequence.specs.Lefts.{is_stage}
use Rattle.etcs_sequence.proofs.LeftBodies.{bits_after, bits_whole, kept_more, kept_whole}
use Rattle.etcs_sequence.proofs.state.PacketsState.pass_bits.Goals as goal

pub returns-then-count-left-clause-moved : goal.returns-then-count-left-clause-moved
returns-then-count-left-clause-moved c t is =
    let s = c.args.self.now in
    rw c.requires.stage (bits_after s.carrier s.room c.args.nid c.args.dir c.args.left t c.args.count is c.requires.within)

pub returns-clause-moved : goal.returns-clause-moved
returns-clause-moved c t is =
    let s = c.args.self.now in
    let b = c.after_packet-self in
    let a = c.args in
    let m = bits_after s.carrier s.room a.nid a.dir a.left t a.count is c.requires.within in
    rw c.requires.stage (bits_whole s.carrier s.room (Kept a.nid a.dir a.left) (kept OTHER_DATA t) s.carrier s.room a.nid a.dir (a.left - a.count) b.result m (omega (arith, c.if-count-left.false)) b.ensures.same b.ensures.ahead)

pub returns-then-count-left-clause-here : goal.returns-then-count-left-clause-here
returns-then-count-left-clause-here c t is f k h here =
    let s = c.args.self.now in
    let a = c.args in
    let i = rw c.requires.stage at here in
    let total : length (k ++ t) + (a.left - a.count) ≡ length k + a.left = omega (arith, length-append k t, is, c.requires.within) in
    let more = kept_more (way_of s.carrier) a.nid a.dir (length k + a.left) k t h i.2 in
    rw (i.0, total) (refl, i.1, more)

pub returns-clause-here : goal.returns-clause-here
returns-clause-here c t is f k h here =
    let s = c.args.self.now in
    let way = way_of s.carrier in
    let a = c.args in
    let i = rw c.requires.stage at here in
    let stands : IsTrue (is_stage s.carrier s.room s.stage) = s.stands in
    let both = and_both (is_kept way a.nid) (is_direction way a.dir && nat_lt 0 a.left) (rw c.requires.stage at stands) in
    let direction = (and_both (is_direction way a.dir) (nat_lt 0 a.left) both.1).0 in
    let total : length k + a.left ≡ length (k ++ t) = omega (arith, length-append k t, is, c.requires.within, c.if-count-left.false) in
    let more = kept_more way a.nid a.dir (length k + a.left) k t h i.2 in
    let whole = kept_whole s.carrier a.nid a.dir (k ++ t) (h ++ kept OTHER_DATA t) both.0 direction (rw total at i.1) (rw total at more) in
    (i.0, whole.0, whole.1, c.after_packet-self.ensures.here)
