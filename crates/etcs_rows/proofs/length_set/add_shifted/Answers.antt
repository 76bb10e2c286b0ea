use Rattle.std.proofs.Common.{arith, ◌+◌, ◌-◌, ◌*◌, ◌/◌}
use Rattle.etcs_rows.proofs.Raised.{takes_more, takes_first, takes_low}
use Rattle.etcs_rows.proofs.Additions.{adds_one}
use Rattle.etcs_rows.proofs.length_set.add_shifted.Goals as goal

pub returns : goal.returns
returns c =
    let by = c.args.by in let words = c.args.words.now in let old = c.args.sums.now in let new = c.add_rest.new.sums in
    let first = by / 64 in let rest = first + 1 + (127 - first) / 4 * 4 in
    let one = takes_more by words 0 first (first + 1) old old _ (omega arith) (omega arith) (takes_low by words old) (takes_first by words old (omega arith)) in
    let two = takes_more by words 0 (first + 1) rest old _ c.add_blocks.new.sums (omega arith) (omega arith) one c.add_blocks.ensures in
    adds_one words old new by (omega arith) (omega arith) c.fits-words (takes_more by words 0 rest 128 old c.add_blocks.new.sums new (omega arith) (omega arith) two c.add_rest.ensures)
