use Rattle.std.proofs.Common.{◌-◌, reverse}
use Rattle.etcs_bits.specs.Bits.{bits}
use Rattle.etcs_rows.specs.Cursors.{left_of, waiting}
use Rattle.etcs_rows.proofs.EntryLemmas.{taken_looks, place_run, place_goes}
use Rattle.etcs_rows.proofs.place.Place.pass_entry.Goals as goal

pub invariant_of-self : goal.invariant_of-self
invariant_of-self c =
    let old = c.self.inside.cursor in
    let n = c.in_ok-count.count in (
      c.skip.ensures.nests,
      c.skip.ensures.settled,
      taken_looks (left_of old) (waiting (reverse old.pending.items)) (left_of c.skip.new.self) c.args.len (c.args.len - n) (bits c.args.piece.now) c.args.at n c.entry.new.numbers.items c.self.invariant.2 c.in_ok-count.ensures.taken c.skip.ensures.left,
    )

pub returns-clause-looks : goal.returns-clause-looks
returns-clause-looks c =
    let old = c.self.inside.cursor in
    let n = c.in_ok-count.count in
    taken_looks (left_of old) (waiting (reverse old.pending.items)) (left_of c.skip.new.self) c.args.len (c.args.len - n) (bits c.args.piece.now) c.args.at n c.entry.new.numbers.items c.self.invariant.2 c.in_ok-count.ensures.taken c.skip.ensures.left

pub returns-clause-run : goal.returns-clause-run
returns-clause-run c =
    let old = c.self.inside.cursor in
    let n = c.in_ok-count.count in
    place_run (left_of old) c.args.self.now (waiting (reverse old.pending.items)) (left_of c.skip.new.self) c.args.len (c.args.len - n) (bits c.args.piece.now) c.args.at n c.entry.new.numbers.items c.self.invariant.2 c.in_ok-count.ensures.taken c.self.view_is c.skip.ensures.left

pub returns-clause-goes : goal.returns-clause-goes
returns-clause-goes c =
    let old = c.self.inside.cursor in
    let n = c.in_ok-count.count in
    let look = taken_looks (left_of old) (waiting (reverse old.pending.items)) (left_of c.skip.new.self) c.args.len (c.args.len - n) (bits c.args.piece.now) c.args.at n c.entry.new.numbers.items c.self.invariant.2 c.in_ok-count.ensures.taken c.skip.ensures.left in
    place_goes (left_of old) c.args.self.now (waiting (reverse old.pending.items)) (left_of c.skip.new.self) c.args.len (c.args.len - n) c.self.invariant.2 look c.self.view_is c.skip.ensures.left c.in_ok-count.ensures.lengths
