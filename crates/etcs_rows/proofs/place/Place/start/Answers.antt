use Rattle.std.proofs.Common.{◌≡◌, sym, ◌∙◌, arith, None, IsTrue, subst}
use Rattle.etcs_tables.specs.Layouts.{Layout, layout, looks}
use Rattle.etcs_rows.specs.Cursors.{left_of}
use Rattle.etcs_rows.proofs.PlaceLemmas.{sound_parts, sound_open, onto-open}
use Rattle.etcs_rows.proofs.place.Place.start.Goals as goal

pub settle-requires : goal.settle-requires
settle-requires c = let s = sound_parts (layout c.args.row.items.now) c.args.row.sound in rw c.new.ensures (omega arith, s.0, tt)

pub returns-clause-left : goal.returns-clause-left
returns-clause-left c =
    let s = sound_parts (layout c.args.row.items.now) c.args.row.sound in
    c.settle.ensures.same ∙ rw c.new.ensures (onto-open 0 (layout c.args.row.items.now) (sound_open (layout c.args.row.items.now) s.1))

pub invariant_of-result : goal.invariant_of-result
invariant_of-result c =
    let s = sound_parts (layout c.args.row.items.now) c.args.row.sound in
    let is : left_of c.settle.new.self ≡ layout c.args.row.items.now = c.settle.ensures.same ∙ rw c.new.ensures (onto-open 0 (layout c.args.row.items.now) (sound_open (layout c.args.row.items.now) s.1)) in
    (c.settle.ensures.nests, c.settle.ensures.settled, subst (λ (x : Layout). IsTrue (looks None x)) (sym is) s.1)

pub returns-clause-looks : goal.returns-clause-looks
returns-clause-looks c =
    let s = sound_parts (layout c.args.row.items.now) c.args.row.sound in
    let is : left_of c.settle.new.self ≡ layout c.args.row.items.now = c.settle.ensures.same ∙ rw c.new.ensures (onto-open 0 (layout c.args.row.items.now) (sound_open (layout c.args.row.items.now) s.1)) in
    subst (λ (x : Layout). IsTrue (looks None x)) (sym is) s.1
