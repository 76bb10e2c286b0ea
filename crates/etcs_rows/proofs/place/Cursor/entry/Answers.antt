use Rattle.std.proofs.Common.{◌-◌, reverse, sym, subst}
use Rattle.etcs_bits.specs.Bits.{bits}
use Rattle.etcs_rows.specs.Lengths.{LengthsBy}
use Rattle.etcs_rows.specs.Cursors.{waiting}
use Rattle.etcs_rows.specs.Entries.{differing, speed}
use Rattle.etcs_rows.proofs.EntryLemmas.{list_taken, list_left}
use Rattle.etcs_rows.proofs.place.Cursor.entry.Goals as goal

pub returns-then-count-len-clause-taken : goal.returns-then-count-len-clause-taken
returns-then-count-len-clause-taken c =
    list_taken c.args.self.now differing c.args.len c.in_ok-count.count (bits c.args.piece.now) c.args.at c.differing_at.new.numbers.items (c.is_differing.ensures c.if-is_differing.true) c.if-count-len.true c.in_ok-count.ensures.taken

pub returns-then-count-len-clause-lengths : goal.returns-then-count-len-clause-lengths
returns-then-count-len-clause-lengths c = λ x.
    subst (λ k. LengthsBy (waiting (reverse c.args.self.now.pending.items)) 0 (c.args.len - k)) (sym c.in_ok-count.ensures.some) (list_left c.args.self.now c.args.len (c.is_differing.ensures c.if-is_differing.true) x)

pub returns-then-holds-clause-taken : goal.returns-then-holds-clause-taken
returns-then-holds-clause-taken c =
    list_taken c.args.self.now speed c.args.len c.in_ok-count-2.count (bits c.args.piece.now) c.args.at c.speed_at.new.numbers.items (c.is_speed.ensures c.if-not-is_speed.false) c.if-count-len-2.false c.in_ok-count-2.ensures.taken
