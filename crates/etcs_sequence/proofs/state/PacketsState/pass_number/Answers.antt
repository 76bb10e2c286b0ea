use Rattle.std.proofs.Common.{◌≡◌, false, sym, ◌∙◌, arith}
use Rattle.std.specs.Prelude.{IsTrue}
use Rattle.etcs_tables.specs.Frames.{is_framed}
use Rattle.etcs_rows.specs.Frames.{way_of}
use Rattle.etcs_sequence.proofs.Framing.{framed_stands, number_room, number_small, closing_moved, closing_here, zero_telegram, zero_moved, zero_here, framed_moved, framed_here}
use Rattle.etcs_sequence.proofs.state.PacketsState.pass_number.Goals as goal

pub overflow_cast-nid : goal.overflow_cast-nid
overflow_cast-nid c = let s = c.args.self.now in omega (arith, number_small s.carrier s.room c.args.number (rw c.requires.stage at s.stands) (rw c.requires.stage at c.requires.goes))

pub overflow_sub-self : goal.overflow_sub-self
overflow_sub-self c = let s = c.args.self.now in number_room s.carrier s.room c.args.number (rw c.requires.stage at s.stands) (rw c.requires.stage at c.requires.goes)

pub invariant_of-self : goal.invariant_of-self
invariant_of-self c =
    let s = c.args.self.now in
    let framed : IsTrue (is_framed (way_of s.carrier) c.args.number) = rw c.way-way.ensures at (sym c.is_framed.ensures ∙ c.if-is_framed.true) in
    record { small = s.small; stands = rw (c.after_framed-self.ensures, c.way-way.ensures) (framed_stands s.carrier s.room c.args.number framed) }

pub returns-then-is_framed : goal.returns-then-is_framed
returns-then-is_framed c =
    let s = c.args.self.now in
    let more = rw c.requires.stage at s.stands in
    let goes = rw c.requires.stage at c.requires.goes in
    let framed : IsTrue (is_framed (way_of s.carrier) c.args.number) = rw c.way-way.ensures at (sym c.is_framed.ensures ∙ c.if-is_framed.true) in
    rw (c.requires.stage, c.after_framed-self.ensures, c.way-way.ensures) record { moved = framed_moved s.carrier s.room c.args.number more goes framed; here = framed_here s.carrier s.room c.args.number more goes }

pub returns-then-nid : goal.returns-then-nid
returns-then-nid c =
    let s = c.args.self.now in
    let more = rw c.requires.stage at s.stands in
    let goes = rw c.requires.stage at c.requires.goes in
    let unframed : is_framed (way_of s.carrier) c.args.number ≡ false = rw c.way-way.ensures at (sym c.is_framed.ensures ∙ c.if-is_framed.false) in
    rw c.requires.stage record { moved = closing_moved s.carrier s.room c.args.number more goes unframed c.if-nid.true; here = closing_here s.carrier s.room c.args.number more goes unframed c.if-nid.true }

pub invariant_of-self-2 : goal.invariant_of-self-2
invariant_of-self-2 c =
    let s = c.args.self.now in
    let unframed : is_framed (way_of s.carrier) c.args.number ≡ false = rw c.way-way.ensures at (sym c.is_framed.ensures ∙ c.if-is_framed.false) in
    record { small = s.small; stands = zero_telegram s.carrier s.room c.args.number (rw c.requires.stage at s.stands) (rw c.requires.stage at c.requires.goes) unframed c.if-nid.false }

pub returns : goal.returns
returns c =
    let s = c.args.self.now in
    let more = rw c.requires.stage at s.stands in
    let goes = rw c.requires.stage at c.requires.goes in
    let unframed : is_framed (way_of s.carrier) c.args.number ≡ false = rw c.way-way.ensures at (sym c.is_framed.ensures ∙ c.if-is_framed.false) in
    rw c.requires.stage record { moved = zero_moved s.carrier s.room c.args.number more goes unframed c.if-nid.false; here = zero_here s.carrier s.room c.args.number more goes unframed c.if-nid.false }
